use Rattle.std.proofs.Common.{◌+◌, ◌∙◌, sym, ap, subst}
use Rattle.rules.specs.declared.history.Op.{Op}
use Rattle.rules.specs.Bodies.{is_drop_body, pairs_of_body}
use Rattle.changes_by_key.specs.steps.Indexes.{KeyIndex, AreByKey}
use Rattle.places.proofs.Outcomes.{by_result}
use Rattle.changes_by_key.proofs.Keyed.{by_key_drop, by_key_new}
use Rattle.changes_by_key.proofs.by_key.ByKey.add.Goals as goal

pub add_put-requires-clause-pairs : goal.add_put-requires-clause-pairs
add_put-requires-clause-pairs c =
    c.pairs.ensures.pairs ∙ sym (ap pairs_of_body c.in-Put.is) ∙ ap (λ (op : Op). pairs_of_body op.body) c.next_op.ensures

pub add_put-requires-clause-no_drop : goal.add_put-requires-clause-no_drop
add_put-requires-clause-no_drop c =
    sym (ap (λ (op : Op). is_drop_body op.body) c.next_op.ensures) ∙ ap is_drop_body c.in-Put.is

pub returns-in-DropVersion-clause-keys : goal.returns-in-DropVersion-clause-keys
returns-in-DropVersion-clause-keys c =
    let k = c.args.ops.now in
    let index = c.args.self.now in
    by_result c.add_drop.result (AreByKey k) c.add_drop.new.self _ index c.add_drop.ensures.ok c.add_drop.ensures.err
    (by_key_drop k index c.requires.keys c.requires.more c.in-DropVersion.object c.in-DropVersion.version (sym (ap (λ (op : Op). op.body) c.next_op.ensures) ∙ c.in-DropVersion.is))
    c.requires.keys

pub returns-in-New-clause-keys : goal.returns-in-New-clause-keys
returns-in-New-clause-keys c =
    let k = c.args.ops.now in
    let index = c.args.self.now in
    subst (λ (s : KeyIndex). AreByKey k (record { len = s.len + 1; keys = s.keys; drops = s.drops })) (sym c.self.view_is)
    (by_key_new k index c.requires.keys c.requires.more c.in-New.kind c.in-New.attrs (sym (ap (λ (op : Op). op.body) c.next_op.ensures) ∙ c.in-New.is))
