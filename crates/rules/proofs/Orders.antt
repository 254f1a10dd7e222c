-- Names and identifiers are totally ordered, and only equals tie.
use Rattle.std.proofs.Common.{◌≡◌, ap, ◌∙◌}
use Rattle.std.specs.declared.cmp.Ordering.TheVariants.{Equal}
use Rattle.std.specs.Ordering.{is_eq}
use Rattle.std.specs.Cmp.{IsTotalOrder}
use Rattle.std.proofs.lemmas.Cmp.{then_total, on_total, nat_cmp_total, lists_total}
use Rattle.base_types.specs.Names.{Name, name_cmp}
use Rattle.base_types.specs.VersionIds.{id_cmp}
use Rattle.base_types.specs.steps.Equality.{same_name-ties, same_names-ties}
use Rattle.rules.specs.declared.history.Op.{Op}
use Rattle.rules.specs.declared.version.Version.{Version}
use Rattle.rules.specs.Operations.{by_name, name_of}
use Rattle.rules.specs.Versions.{by_id}
use Rattle.rules.proofs.Counted.{same_name-true}
use Rattle.rules.proofs.Identifiers.{same_names-true}
use Rattle.std.specs.Prelude.{List}

pub name_cmp_total : IsTotalOrder name_cmp
name_cmp_total = then_total (on_total (λ (n : Name). n.0) nat_cmp_total) (on_total (λ (n : Name). n.1) nat_cmp_total)

pub by_name_total : IsTotalOrder by_name
by_name_total = on_total name_of name_cmp_total

pub id_cmp_total : IsTotalOrder id_cmp
id_cmp_total = lists_total name_cmp_total

pub by_id_total : IsTotalOrder by_id
by_id_total = on_total (λ (v : Version). v.id) id_cmp_total

pub tied : (m n : Name) → name_cmp m n ≡ Equal → m ≡ n
tied m n e = same_name-true m n (same_name-ties m n ∙ ap is_eq e)

pub one_name : (a b : Op) → by_name a b ≡ Equal → a.name ≡ b.name
one_name a b = tied a.name b.name

pub one_id : (ms ns : List Name) → id_cmp ms ns ≡ Equal → ms ≡ ns
one_id ms ns e = same_names-true ms ns (same_names-ties ms ns ∙ ap is_eq e)
