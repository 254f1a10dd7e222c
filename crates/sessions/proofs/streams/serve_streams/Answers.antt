use Rattle.std.proofs.Common.{List, ℕ, map, ap, subst, sym}
use Rattle.std.specs.Io.KnownBytes.{Appends}
use Rattle.std.proofs.KnownBytes.{Appends-kept}
use Rattle.base_types.proofs.Results.{ok_of}
use Rattle.room_lock.specs.Rooms.{IsListOf}
use Rattle.std.specs.List.{flat_map}
use Rattle.sessions.specs.Records.{record_lines}
use Rattle.sessions.proofs.Printed.{all_legal, named, same_names}
use Rattle.sessions.proofs.streams.serve_streams.Goals as goal

pub returns : goal.returns
returns g c =
    let records = c.in_ok-records.records.items in
    let printed = ap (λ l. flat_map record_lines (map named l)) c.as_slice.ensures.value in
    let P : List ℕ → Type 0 = Appends (g.W.Write.contents c.args.output.now) (g.W.Write.contents c.flush.new.output) in
    ok_of c.flush.result (record {
      records = map named records;
      names_are = subst (IsListOf c.args.rooms) (sym (same_names records)) c.in_ok-records.ensures.names;
      legal = all_legal g.P.RoomHistories.limits (λ one. one.parts.items) records c.in_ok-records.ensures.closed;
      printed = subst P printed (Appends-kept _ _ _ _ c.in_ok-write_records.ensures c.flush.ensures);
    })
