use Rattle.std.proofs.Common.{◌≤◌, length, map, take, ap, ◌∙◌, arith, rules, get_or}
use Rattle.std.specs.Arc.{arc_value}
use Rattle.std.proofs.lemmas.List.{length-map}
use Rattle.room_core.specs.Room.{full_room}
use Rattle.history_check.proofs.Judged.{judged_more, judged_all}
use Rattle.history_check.proofs.Timed.{at_place, in_time, line_within, place_within, time_within}
use Rattle.history_check.proofs.findings.find_all.Goals as goal
use Rattle.wire.specs.Replies.{at_of}

pub advance-requires-clause-within : goal.advance-requires-clause-within
advance-requires-clause-within c =
    time_within c.args.lines.now c.deref-timed-items.result.now (length c.args.entries.now) c.loop-timed.invariant.1 c.requires.within c.loop-timed.timed-index c.loop-timed-test.true

pub bounds-lines-place : goal.bounds-lines-place
bounds-lines-place c = place_within c.args.lines.now c.deref-timed-items.result.now c.loop-timed.invariant.1 c.loop-timed.timed-index c.loop-timed-test.true

pub offset_bounds-lines-place : goal.offset_bounds-lines-place
offset_bounds-lines-place c =
    let h = place_within c.args.lines.now c.deref-timed-items.result.now c.loop-timed.invariant.1 c.loop-timed.timed-index c.loop-timed-test.true in
    search (h, rules)

pub fault_of-requires : goal.fault_of-requires
fault_of-requires c =
    let order = c.deref-timed-items.result.now in
    let k = c.loop-timed.timed-index in
    let h = place_within c.args.lines.now order c.loop-timed.invariant.1 k c.loop-timed-test.true in
    let at = at_place c.args.lines.now (get_or order k (0, 0)).1 c.index-lines-place.result h c.index-lines-place.is in
    c.in_ok-advance.ensures ∙ ap (λ n. full_room (take n (map arc_value c.args.entries.now))) (in_time c.args.lines.now order c.loop-timed.invariant.1 k c.index-lines-place.result c.loop-timed-test.true at)

pub index_mut-requires : goal.index_mut-requires
index_mut-requires c =
    let h = place_within c.args.lines.now c.deref-timed-items.result.now c.loop-timed.invariant.1 c.loop-timed.timed-index c.loop-timed-test.true in
    let size = c.loop-timed.invariant.0.size in
    search (h, size, rules)

pub loop-timed-preserved : goal.loop-timed-preserved
loop-timed-preserved c =
    let r = map arc_value c.args.entries.now in
    let lines = c.args.lines.now in
    let order = c.deref-timed-items.result.now in
    let k = c.loop-timed.timed-index in
    let time = c.loop-timed.invariant.1 in
    let line = c.index-lines-place.result in
    let h = place_within lines order time k c.loop-timed-test.true in
    let at = at_place lines (get_or order k (0, 0)).1 line h c.index-lines-place.is in
    let within = line_within (λ l. at_of l.reply ≤ length c.args.entries.now) lines (get_or order k (0, 0)).1 line c.requires.within at in
    let inside : at_of line.reply ≤ length r = rw length-map within in
    let room = c.in_ok-findings-2.ensures.room ∙ c.in_ok-advance.ensures ∙ ap (λ n. full_room (take n r)) (in_time lines order time k line c.loop-timed-test.true at) in (
      judged_more r lines order k c.loop-timed.findings.items c.loop-timed.room.room c.fault_of.new.room.room line c.in_ok-findings-2.field-0
          c.loop-timed.invariant.0 time c.loop-timed-test.true at inside room c.in_ok-findings-2.ensures.finding,
      time,
    )

pub returns : goal.returns
returns c =
    judged_all (map arc_value c.args.entries.now) c.args.lines.now c.deref-timed-items.result.now c.loop-timed.timed-index c.loop-timed.findings.items c.loop-timed.room.room
    c.loop-timed.invariant.0 c.loop-timed.invariant.1 (omega (arith, c.loop-timed-test.false))
