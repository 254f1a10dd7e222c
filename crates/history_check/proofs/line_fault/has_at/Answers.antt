use Rattle.std.proofs.Common.{◌≡◌, ap, map, length, nat_lt, false, arith, rules}
use Rattle.std.specs.Prelude.{option_map}
use Rattle.std.specs.Arc.{arc_value}
use Rattle.std.proofs.lemmas.List.{length-map}
use Rattle.std.proofs.lemmas.Option.{slice_get_past}
use Rattle.rules.specs.steps.Equality.{same_entry}
use Rattle.room_core.proofs.Seen.{at_map}
use Rattle.history_check.proofs.Told.{same_if_there, not_there, none_there}
use Rattle.history_check.proofs.line_fault.has_at.Goals as goal

pub returns-then-place-entries : goal.returns-then-place-entries
returns-then-place-entries c =
    let x = c.index-entries-place.result in
    let at = at_map arc_value c.args.entries.now c.args.place x c.if-place-entries.true c.index-entries-place.is in
    let test : c.eq.result ≡ same_entry (arc_value x) (arc_value c.in-Some.entry.now) = search rules in
    same_if_there _ _ (arc_value x) (arc_value c.in-Some.entry.now) c.eq.result at (ap (option_map (λ e. arc_value e.now)) c.in-Some.is) test

pub returns-else-place-entries : goal.returns-else-place-entries
returns-else-place-entries c =
    let size = length-map c.args.entries.now arc_value in
    let fails : nat_lt c.args.place (length c.args.entries.now) ≡ false = search rules in
    not_there _ _ (arc_value c.in-Some.entry.now) _ (slice_get_past (map arc_value c.args.entries.now) c.args.place (omega (arith, size, c.if-place-entries.false)))
    (ap (option_map (λ e. arc_value e.now)) c.in-Some.is) fails

pub returns-in-None : goal.returns-in-None
returns-in-None c = none_there arc_value c.args.entries.now c.args.place _ (ap (option_map (λ e. arc_value e.now)) c.in-None.is)
