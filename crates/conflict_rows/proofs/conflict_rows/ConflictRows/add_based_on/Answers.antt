use Rattle.std.proofs.Common.{◌≡◌, ◌∙◌, ap, arith, cond, length, subst}
use Rattle.places.specs.steps.PlaceSet.{with_place}
use Rattle.places.specs.steps.Changes.{AreChangesOf, Changes}
use Rattle.conflict_rows.proofs.Direct.{row_begun, row_done, row_if_none, row_more}
use Rattle.conflict_rows.proofs.conflict_rows.ConflictRows.add_based_on.Goals as goal

pub returns-in_default : goal.returns-in_default
returns-in_default c = λ based low begun. row_if_none c.args.self.now.ops based c.args.direct.now c.args.row.now c.in_default.ensures low begun

pub loop-place-init : goal.loop-place-init
loop-place-init c = λ based low begun.
    let k = c.args.self.now.ops in
    let changes : AreChangesOf c.self.inside.object k = subst (λ (s : Changes). AreChangesOf c.self.inside.object s.ops) c.self.view_is c.self.invariant.changes.listed in
    row_begun k changes c.args.direct.now based c.in-Some.lowest c.args.row.now c.in-Some.ensures.1 low begun

pub loop-place-preserved : goal.loop-place-preserved
loop-place-preserved c = λ based low begun.
    let k = c.args.self.now.ops in
    let p = c.loop-place.place in
    let changes : AreChangesOf c.self.inside.object k = subst (λ (s : Changes). AreChangesOf c.self.inside.object s.ops) c.self.view_is c.self.invariant.changes.listed in
    let size : c.len-place-end.result ≡ length k = omega (arith, c.len-place-end.ensures, c.self.inside.ops.ok, ap (λ (s : Changes). length s.ops) c.self.view_is) in
    row_more k changes c.args.direct.now based p c.loop-place.row c.insert_if.new.self (omega (arith, size)) (c.loop-place.invariant based low begun)
    (c.in_ok-insert_if.ensures.ok ∙ ap (λ b. cond b (with_place p c.loop-place.row) c.loop-place.row) c.has_direct_conflict-has_direct.ensures)

pub returns : goal.returns
returns c = λ based low begun.
    let k = c.args.self.now.ops in
    let changes : AreChangesOf c.self.inside.object k = subst (λ (s : Changes). AreChangesOf c.self.inside.object s.ops) c.self.view_is c.self.invariant.changes.listed in
    let size : c.len-place-end.result ≡ length k = omega (arith, c.len-place-end.ensures, c.self.inside.ops.ok, ap (λ (s : Changes). length s.ops) c.self.view_is) in
    row_done k changes c.args.direct.now based c.loop-place.place c.loop-place.row (omega (arith, size)) (c.loop-place.invariant based low begun)
