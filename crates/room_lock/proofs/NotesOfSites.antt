-- Only sites that sessions are in as have notes.
use Rattle.std.proofs.Common.{◌≡◌, ◌≢◌, ℕ, ◌≤◌, zero, suc, Bool, true, false, not, cond, eqb, leb, List, [], ◌∷◌, ◌++◌, length, get_or, Option, Some, None, is_some, refl, sym, ap, subst, ◌∙◌, arith, ◌&&◌}
use Rattle.std.proofs.lemmas.Bool.{and_from, and_parts, eqb-true, le-leb, leb-true}
use Rattle.std.proofs.lemmas.List.{length-append}
use Rattle.wire.specs.declared.note.NoteRequest.{NoteRequest}
use Rattle.wire.specs.declared.note.NoteRequest.TheVariants.{Set, Read}
use Rattle.wire.specs.Notes.{Notes, note_of, notes_after, with_note}
use Rattle.notes.specs.Notes.{NotePlaces, notes_at}
use Rattle.room_lock.specs.Shelves.{AreOfSitesIn}
use Rattle.room_lock.specs.Passes.{PartView}
use Rattle.room_lock.specs.Shelves.{Shelf, is_away, part_of}
use Rattle.room_lock.specs.steps.Shelves.{with_at}
use Rattle.room_lock.proofs.Shelves.{part_with, push_found, same_length}

-- ---- sites that are away

absent : (o : Option PartView) → not (is_some o) ≡ true → o ≡ None
absent None e = refl
absent (Some part) e = absurd cc

record IsAway (shelf : Shelf) (site : ℕ) : Type 0 where
  first : leb 1 site ≡ true
  last : leb site (length shelf) ≡ true
  none : part_of shelf site ≡ None

away_parts : (shelf : Shelf) (site : ℕ) → is_away shelf site ≡ true → IsAway shelf site
away_parts shelf site away =
    let all = and_parts _ _ away in
    let range = and_parts _ _ all.0 in
    record { first = range.0; last = range.1; none = absent (part_of shelf site) all.1 }

away_from : (shelf : Shelf) (site : ℕ) → IsAway shelf site → is_away shelf site ≡ true
away_from shelf site away = and_from _ _ (and_from _ _ away.first away.last) (ap (λ o. not (is_some o)) away.none)

-- the place of another site, or one where nothing is put, stays empty
absent_with : (shelf : Shelf) (site other : ℕ) (part : Option PartView) → part_of shelf other ≡ None → cond (eqb site other) part None ≡ None → part_of (with_at shelf site part) other ≡ None
absent_with shelf site other part none empty = go (part_of (with_at shelf site part) other) refl
  where
    go : (o : Option PartView) → part_of (with_at shelf site part) other ≡ o → o ≡ None
    go None e = refl
    go (Some found) e =
        let there : cond (eqb site other) part (part_of shelf other) ≡ Some found = part_with shelf site other part found e (eqb site other) refl in
        let clash : None ≡ Some found = sym empty ∙ ap (λ o. cond (eqb site other) part o) (sym none) ∙ there in
        absurd cc

away_with : (shelf : Shelf) (site other : ℕ) (part : Option PartView) → is_away shelf other ≡ true → cond (eqb site other) part None ≡ None → is_away (with_at shelf site part) other ≡ true
away_with shelf site other part away empty =
    let was = away_parts shelf other away in
    away_from (with_at shelf site part) other (record {
      first = was.first;
      last = ap (leb other) (same_length shelf site part) ∙ was.last;
      none = absent_with shelf site other part was.none empty;
    })

-- ---- their notes

abbrev no_part : Option PartView
no_part = None

nothing_put : (b : Bool) → cond b no_part no_part ≡ no_part
nothing_put true = refl
nothing_put false = refl

-- a part is taken off the shelf
pub noted_taken : (shelf : Shelf) (notes : NotePlaces) (site : ℕ) → AreOfSitesIn shelf notes → AreOfSitesIn (with_at shelf site None) notes
noted_taken shelf notes site noted other n = away_with shelf site other None (noted other n) (nothing_put (eqb site other))

-- a part is put there, and its site has no note any more
pub noted_put : (shelf : Shelf) (notes left : NotePlaces) (site : ℕ) (part : Option PartView) → notes_at left ≡ with_note site None (notes_at notes) → AreOfSitesIn shelf notes → AreOfSitesIn (with_at shelf site part) left
noted_put shelf notes left site part is noted other n = go (eqb site other) refl (λ e. n (ap (λ (f : Notes). f other) is ∙ e))
  where
    go : (b : Bool) → eqb site other ≡ b → cond b None (notes_at notes other) ≢ None → is_away (with_at shelf site part) other ≡ true
    go true e m = absurd (m refl)
    go false e m = away_with shelf site other part (noted other m) (ap (λ b. cond b part None) e)

-- a site joins
pub noted_pushed : (shelf : Shelf) (notes : NotePlaces) → AreOfSitesIn shelf notes → AreOfSitesIn (shelf ++ None ∷ []) notes
noted_pushed shelf notes noted zero n = absurd (let away = away_parts shelf zero (noted zero n) in let first = away.first in cc)
noted_pushed shelf notes noted (suc place) n =
    let was = away_parts shelf (suc place) (noted (suc place) n) in
    let few : suc place ≤ length shelf = leb-true (suc place) (length shelf) was.last in
    away_from (shelf ++ None ∷ []) (suc place) (record {
      first = was.first;
      last = le-leb (suc place) (length (shelf ++ None ∷ [])) (omega (arith, few, length-append shelf (None ∷ [])));
      none = go (get_or (shelf ++ None ∷ []) place None) refl was.none;
    })
  where
    go : (o : Option PartView) → get_or (shelf ++ None ∷ []) place None ≡ o → get_or shelf place None ≡ None → o ≡ None
    go None e none = refl
    go (Some found) e none =
        let there : get_or shelf place None ≡ Some found = push_found shelf place found e in
        let clash : None ≡ Some found = sym none ∙ there in
        absurd cc

-- a request of a site that a session is in as
pub noted_after : (shelf : Shelf) (notes now : NotePlaces) (site : ℕ) (request : NoteRequest) → is_away shelf site ≡ true → notes_at now ≡ notes_after site request (notes_at notes) → AreOfSitesIn shelf notes → AreOfSitesIn shelf now
noted_after shelf notes now site Read away is noted other n = noted other (λ e. n (ap (λ (f : Notes). f other) is ∙ e))
noted_after shelf notes now site (Set text) away is noted other n = go (eqb site other) refl (λ e. n (ap (λ (f : Notes). f other) is ∙ e))
  where
    go : (b : Bool) → eqb site other ≡ b → cond b (note_of text) (notes_at notes other) ≢ None → is_away shelf other ≡ true
    go true e m = subst (λ s. is_away shelf s ≡ true) (eqb-true site other e) away
    go false e m = noted other m

-- nobody has a note
pub noted_none : (shelf : Shelf) → AreOfSitesIn shelf []
noted_none shelf site n = absurd (n refl)
