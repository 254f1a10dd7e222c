use Rattle.std.proofs.Common.{◌∙◌, sym, ap, drop}
use Rattle.std.specs.List.{list_all}
use Rattle.std.proofs.lemmas.List.{take_rest}
use Rattle.base_types.specs.Vectors.{counts}
use Rattle.rules.specs.declared.history.Op.{Op}
use Rattle.changes_by_site.specs.steps.Indexes.{SiteIndex}
use Rattle.changes_by_site.proofs.Counted.{counts_not_all, counts_rest}
use Rattle.changes_by_site.proofs.by_site.BySite.are_all_counted.Goals as goal

pub returns-then-are_sites_counted : goal.returns-then-are_sites_counted
returns-then-are_sites_counted c =
    let ops = c.args.ops.now in
    let all = sym c.are_sites_counted.ensures ∙ c.if-are_sites_counted.true in
    c.are_counted.ensures
    ∙ ap (list_all (λ (op : Op). counts c.args.seen.now op.name)) (take_rest ops c.self.inside.len)
    ∙ ap (λ (s : SiteIndex). list_all (λ (op : Op). counts c.args.seen.now op.name) (drop s.len ops)) c.self.view_is
    ∙ counts_rest ops c.args.self.now c.requires.sites c.requires.order c.args.seen.now all

pub returns-else-are_sites_counted : goal.returns-else-are_sites_counted
returns-else-are_sites_counted c =
    let all = sym c.are_sites_counted.ensures ∙ c.if-are_sites_counted.false in
    c.if-are_sites_counted.false ∙ sym (counts_not_all c.args.ops.now c.args.self.now c.requires.sites c.requires.order c.args.seen.now all)
