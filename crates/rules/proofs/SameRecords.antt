-- Two legal records with the same operations are one history.
use Rattle.std.proofs.Common.{List}
use Rattle.rules.specs.declared.history.Entry.{Entry}
use Rattle.rules.specs.steps.Histories.{AreSame, HoldTheSame}
use Rattle.rules.specs.Records.{operations}
use Rattle.rules.proofs.Founded.{history_if_legal}

pub are_same : (q r : List Entry) → HoldTheSame q r → AreSame (operations q) (operations r)
are_same q r w =
    let first = history_if_legal w.one.0 q w.one.1 in
    let second = history_if_legal w.other.0 r w.other.1 in
    record {
      one = record { part = first; whole = second; within = λ a m. (w.same a).0 m };
      other = record { part = second; whole = first; within = λ a m. (w.same a).1 m };
    }
