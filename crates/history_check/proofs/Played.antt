-- A record played on.
use Rattle.std.proofs.Common.{◌≡◌, ℕ, ◌+◌, ◌<◌, true, List, [], ◌∷◌, ◌++◌, length, get_or, take, drop, sym, ap, ◌∙◌, subst, add-one, Some, None, cond}
use Rattle.std.specs.Prelude.{slice_get}
use Rattle.std.proofs.Math.Seq.{take-suc}
use Rattle.std.proofs.lemmas.List.{drop_more, take-append-drop}
use Rattle.std.proofs.lemmas.Option.{get_or_from_slice_get, slice_get_within}
use Rattle.rules.specs.declared.history.Entry.{Entry}
use Rattle.rules.specs.declared.limits.LimitValues.{LimitValues}
use Rattle.rules.specs.Limits.{full_limits}
use Rattle.rules.specs.Records.{admits, IsLegal}
use Rattle.rules.proofs.Records.{admitted_at}
use Rattle.room_core.specs.Room.{with_entry, full_room}
use Rattle.room_core.specs.steps.Plans.{admitted}

-- each entry of a legal record is admitted by those before it
pub admitted_in_place : (b : LimitValues) (r : List Entry) (k : ℕ) (d : Entry) → IsLegal b r → k < length r → admits b (take k r) (get_or r k d) ≡ true
admitted_in_place b r k d legal h =
    let whole : r ≡ take k r ++ get_or r k d ∷ drop (k + 1) r = sym (take-append-drop k r) ∙ ap (λ l. take k r ++ l) (drop_more r k d h) in
    admitted_at b [] (take k r) (get_or r k d) (drop (k + 1) r) (subst (IsLegal b) whole legal)

-- the room of a record's first entries, with the next one
pub room_goes_on : (r : List Entry) (k : ℕ) (x : Entry) → IsLegal full_limits r → slice_get r k ≡ Some x
    → with_entry (full_room (take k r)) (admitted (full_room (take k r)) x) ≡ full_room (take (k + 1) r)
room_goes_on r k x legal at =
    let h = slice_get_within r k x at in
    let is : get_or r k x ≡ x = get_or_from_slice_get r k x x at in
    let fits : admits full_limits (take k r) x ≡ true = ap (admits full_limits (take k r)) (sym is) ∙ admitted_in_place full_limits r k x legal h in
    ap (λ b. with_entry (full_room (take k r)) (cond b (Some x) None)) fits
    ∙ ap (λ e. full_room (take k r ++ e ∷ [])) (sym is)
    ∙ ap full_room (sym (take-suc r k x h))
    ∙ ap (λ n. full_room (take n r)) (sym (add-one k))
