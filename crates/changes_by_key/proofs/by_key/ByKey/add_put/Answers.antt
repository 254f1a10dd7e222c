use Rattle.std.proofs.Common.{◌≡◌, ◌∙◌, ◌+◌, ◌<◌, ap, sym, subst, arith, length}
use Rattle.changes_by_key.specs.steps.Indexes.{KeyIndex, AreByKey, IsUnder, is_drop_at, of_key}
use Rattle.changes_by_key.proofs.Keyed.{by_key_put}
use Rattle.changes_by_key.proofs.by_key.ByKey.add_put.Goals as goal

pub returns-clause-keys : goal.returns-clause-keys
returns-clause-keys c =
    let k = c.args.ops.now in
    let done : KeyIndex = c.insert_all.new.self in
    let as_long : done.len ≡ c.args.self.now.len = c.insert_all.ensures.len in
    let few : done.len < length k = omega (arith, as_long, c.requires.more) in
    subst (λ (s : KeyIndex). AreByKey k (record { len = s.len + 1; keys = s.keys; drops = s.drops })) (sym c.self.view_is)
    (by_key_put k done c.insert_all.ensures.keys few (ap (is_drop_at k) as_long ∙ c.requires.no_drop)
    (λ key t. subst (IsUnder done.keys key) (sym as_long) (c.in_ok-insert_all.ensures.there key (sym (ap (of_key k key) as_long) ∙ t))))
