use Rattle.std.proofs.Common.{ap, sym, subst, ◌∙◌, length}
use Rattle.std.proofs.lemmas.List.{length-map}
use Rattle.renewal.specs.Renewed.{IsRenewed}
use Rattle.succession.proofs.Ended.{follows}
use Rattle.succession.proofs.succeeding.successor_of.Goals as goal

pub returns-in-Room : goal.returns-in-Room
returns-in-Room c =
    let renewed = subst (IsRenewed c.args.old.now.room.entries) c.in-Room.is c.in_ok-new.ensures in
    follows _ _ c.in-Some.count c.in-Some.ensures renewed.0 renewed.1
    (ap length (sym c.entries.ensures.entries) ∙ length-map c.entries.result.now _ ∙ c.if-entries-count.true)
