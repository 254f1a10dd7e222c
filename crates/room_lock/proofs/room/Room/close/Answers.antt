use Rattle.std.proofs.Common.{◌≡◌, List, length, map, Some, None, arith, ap, inr, refl, subst, ◌∙◌}
use Rattle.std.specs.Prelude.{All, Contains, MatchOption, sum_by}
use Rattle.std.specs.Arc.{arc_value}
use Rattle.std.proofs.lemmas.List.{length-map}
use Rattle.rules.specs.declared.history.Entry.{Entry}
use Rattle.rules.specs.declared.limits.LimitValues.{LimitValues}
use Rattle.rules.specs.Records.{IsLegal}
use Rattle.room_lock.specs.Sites.{count_of_sites}
use Rattle.room_lock.specs.Closing.{IsClosed}
use Rattle.room_lock.specs.steps.Closing.{HasItsEntries, IsComplete, added_of}
use Rattle.room_lock.specs.steps.Kept.{RoomView}
use Rattle.room_lock.proofs.Closed.{absent_one, closed_by, other_sum}
use Rattle.room_lock.proofs.room.Room.close.Goals as goal

pub returns-clause-closed : goal.returns-clause-closed
returns-clause-closed g c =
    let r = c.self.inside.state.room.entries in
    let limits = g.P.RoomHistories.limits in
    let parts = c.in-Some.parts.items in
    let full : map Some parts ≡ c.self.inside.shelf.items = subst (λ all. MatchOption all (Contains c.self.inside.shelf.items None) (λ (parts : _). map Some parts.items ≡ c.self.inside.shelf.items)) c.in-Some.is c.in_ok-parts.ensures in
    let slice : c.as_slice.result.now ≡ parts = c.as_slice.ensures.value in
    let sum : c.added_together.result ≡ sum_by added_of parts = c.added_together.ensures.sum ∙ ap (sum_by added_of) slice in
    let whole : sum_by added_of parts ≡ count_of_sites r = omega (arith, sum, c.if-added_together-own.false, c.count_of_sites-own.ensures) in
    let legal = subst (λ (l : LimitValues). IsLegal l r) c.self.invariant.0.limits_are c.into_entries-entries.ensures.legal in
    subst (λ (l : List Entry). IsClosed limits l parts) (ap (λ v. v.entries) c.self.view_is)
    (closed_by limits c.self.inside.opening r c.self.inside.shelf.items parts legal c.self.invariant.0.shelved full (subst (All HasItsEntries) slice c.added_together.ensures.own) whole)

pub returns-in_default-clause-missing : goal.returns-in_default-clause-missing
returns-in_default-clause-missing g c =
    let r = c.self.inside.state.room.entries in
    let shelf = c.self.inside.shelf.items in
    let absent : Contains shelf None = subst (λ all. MatchOption all (Contains shelf None) (λ (parts : _). map Some parts.items ≡ shelf)) c.in_default.is c.in_ok-parts.ensures in
    let not_all = absent_one r shelf absent in
    inr (refl, subst (λ (room : RoomView). ¬ (IsComplete room.entries room.shelf)) c.self.view_is not_all)

pub returns-then-added_together-own-clause-missing : goal.returns-then-added_together-own-clause-missing
returns-then-added_together-own-clause-missing g c =
    let r = c.self.inside.state.room.entries in
    let shelf = c.self.inside.shelf.items in
    let parts = c.in-Some.parts.items in
    let full : map Some parts ≡ shelf = subst (λ all. MatchOption all (Contains shelf None) (λ (parts : _). map Some parts.items ≡ shelf)) c.in-Some.is c.in_ok-parts.ensures in
    let sum : c.added_together.result ≡ sum_by added_of parts = c.added_together.ensures.sum ∙ ap (sum_by added_of) c.as_slice.ensures.value in
    let other : ¬ (sum_by added_of parts ≡ count_of_sites r) = λ whole. c.if-added_together-own.true (omega (arith, sum, c.count_of_sites-own.ensures, whole)) in
    inr (refl, subst (λ (room : RoomView). ¬ (IsComplete room.entries room.shelf)) c.self.view_is (other_sum r shelf parts full other))
