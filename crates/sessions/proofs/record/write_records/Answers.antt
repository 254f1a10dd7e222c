use Rattle.std.proofs.Common.{◌≡◌, ◌+◌, ◌++◌, List, ℕ, map, take, ap, sym, subst, ◌∙◌}
use Rattle.std.specs.Arc.{arc_value}
use Rattle.std.specs.Io.KnownBytes.{Appends}
use Rattle.std.proofs.KnownBytes.{Appends-trans}
use Rattle.std.specs.List.{flat_map}
use Rattle.sessions.specs.Records.{record_lines}
use Rattle.base_types.proofs.Lists.{map_next}
use Rattle.sessions.proofs.Printed.{all_lines_more, named}
use Rattle.sessions.proofs.record.write_records.Goals as goal

pub loop-room-preserved : goal.loop-room-preserved
loop-room-preserved g c =
    let rooms = c.args.rooms.now in
    let k = c.loop-room.room-index in
    let one = c.room-item.result in
    let more = map_next named rooms k one c.loop-room-test.true c.room-item.is in
    let slice : record { name = one.room; entries = map arc_value c.as_slice.result.now } ≡ named one = (λ i. record { name = one.room; entries = map arc_value (c.as_slice.ensures.value i) }) in
    let lines : flat_map record_lines (map named (take k rooms)) ++ record_lines (record { name = one.room; entries = map arc_value c.as_slice.result.now }) ≡ flat_map record_lines (map named (take (k + 1) rooms)) =
    ap (λ room. flat_map record_lines (map named (take k rooms)) ++ record_lines room) slice ∙ sym (all_lines_more (map named (take k rooms)) (named one)) ∙ ap (flat_map record_lines) (sym more) in
    let P : List ℕ → Type 0 = Appends (g.W.Write.contents c.args.output.now) (g.W.Write.contents c.write_record.new.output) in
    subst P lines (Appends-trans _ _ _ _ _ c.loop-room.invariant c.in_ok-write_record.ensures)
