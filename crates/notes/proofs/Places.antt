-- Notes at places, and the list of all.
use Rattle.std.proofs.Common.{◌≡◌, ℕ, ◌+◌, ◌<◌, ◌≤◌, zero, suc, Bool, true, false, cond, eqb, List, [], ◌∷◌, ◌++◌, length, get_or, set, Option, Some, None, refl, sym, ap, subst, ◌∙◌, arith, append_assoc, append-nil, ◌-◌}
use Rattle.std.specs.List.{AllByRecursion}
use mathlib.Core.Path.{fun_ext}
use Rattle.std.proofs.lemmas.Bool.{and_from, eqb-true, eqb-false, lt-ltb}
use Rattle.std.proofs.lemmas.List.{get_or-set_same, get_or-set_other, get_or_past}
use Rattle.base_types.specs.Texts.{Bytes}
use Rattle.base_types.specs.declared.op_name.TheConstants.{MAX_SITE}
use Rattle.wire.specs.Notes.{Note, Notes, all_notes, note_before, notes_from, with_note}
use Rattle.wire.specs.Rising.{rise, site_before}
use Rattle.notes.specs.Notes.{NotePlaces, notes_at}

-- ---- places

module _ (places : NotePlaces) (site : ℕ) where
  set_at : (given : Option Bytes) → site < length places → (other : ℕ) (same : Bool) → eqb site other ≡ same → get_or (set places site given) other None ≡ cond same given (get_or places other None)
  set_at given within other true e = subst (λ k. get_or (set places site given) k None ≡ given) (eqb-true site other e) (get_or-set_same places site given None within)
  set_at given within other false e = get_or-set_other places site other given None (λ f. eqb-false site other e (sym f))

  -- one of them changes
  pub notes_set : (given : Option Bytes) → site < length places → notes_at (set places site given) ≡ with_note site given (notes_at places)
  notes_set given within = fun_ext (λ other. set_at given within other (eqb site other) refl)

  same_at : (given : Option Bytes) → get_or places site None ≡ given → (other : ℕ) (same : Bool) → eqb site other ≡ same → get_or places other None ≡ cond same given (get_or places other None)
  same_at given is other true e = subst (λ k. get_or places k None ≡ given) (eqb-true site other e) is
  same_at given is other false e = refl

  -- the site has the note already
  pub notes_same : (given : Option Bytes) → notes_at places site ≡ given → notes_at places ≡ with_note site given (notes_at places)
  notes_same given is = fun_ext (λ other. same_at given is other (eqb site other) refl)

  -- a site past the places has none
  pub notes_past : length places ≤ site → notes_at places ≡ with_note site None (notes_at places)
  notes_past past = notes_same None (get_or_past places site None past)

pushed_at : (places : NotePlaces) (site : ℕ) → get_or (places ++ None ∷ []) site None ≡ get_or places site None
pushed_at [] zero = refl
pushed_at [] (suc site) = refl
pushed_at (given ∷ places) zero = refl
pushed_at (given ∷ places) (suc site) = pushed_at places site

-- a place more, without a note
pub notes_pushed : (places : NotePlaces) → notes_at (places ++ None ∷ []) ≡ notes_at places
notes_pushed places = fun_ext (pushed_at places)

-- ---- the list of all notes

rises_with : (first : Note) (site count : ℕ) (notes : Notes) → first.0 < site → rise site_before (first ∷ notes_from site count notes) ≡ true
unfolding rise
rises_with first site zero notes lt = refl
rises_with first site (suc count) notes lt = go (notes site) (rises_with first (site + 1) count notes (omega (arith, lt))) (λ text. rises_with (site, text) (site + 1) count notes (omega arith))
  where
    go : (given : Option Bytes) → rise site_before (first ∷ notes_from (site + 1) count notes) ≡ true
        → ((text : Bytes) → rise site_before ((site, text) ∷ notes_from (site + 1) count notes) ≡ true)
        → rise site_before (first ∷ note_before site given (notes_from (site + 1) count notes)) ≡ true
    go None others with = others
    go (Some text) others with = and_from _ _ (lt-ltb first.0 site lt) (with text)

rises_from : (site count : ℕ) (notes : Notes) → rise site_before (notes_from site count notes) ≡ true
unfolding rise
rises_from site zero notes = refl
rises_from site (suc count) notes = go (notes site) (rises_from (site + 1) count notes)
  where
    go : (given : Option Bytes) → rise site_before (notes_from (site + 1) count notes) ≡ true → rise site_before (note_before site given (notes_from (site + 1) count notes)) ≡ true
    go None others = others
    go (Some text) others = rises_with (site, text) (site + 1) count notes (omega arith)

-- they are in order of site
pub all_rise : (notes : Notes) → rise site_before (all_notes notes) ≡ true
unfolding all_notes
all_rise notes = rises_from 1 MAX_SITE notes

-- all notes, of which those of the sites from one on are still to be listed
abbrev pub IsListedTo : ℕ → List Note → Notes → Type 0
IsListedTo site listed notes = listed ++ notes_from site (MAX_SITE + 1 - site) notes ≡ all_notes notes

pub none_listed : (notes : Notes) → IsListedTo 1 [] notes
unfolding all_notes
none_listed notes = refl

pub all_listed : (site : ℕ) (listed : List Note) (notes : Notes) → MAX_SITE < site → IsListedTo site listed notes → listed ≡ all_notes notes
all_listed site listed notes past is =
    let over : MAX_SITE + 1 - site ≡ 0 = omega (arith, past) in
    sym (append-nil listed) ∙ ap (λ count. listed ++ notes_from site count notes) (sym over) ∙ is

listed_more : (site : ℕ) (listed : List Note) (notes : Notes) (given : Option Bytes) → notes site ≡ given → site ≤ MAX_SITE → IsListedTo site listed notes
    → listed ++ note_before site given (notes_from (site + 1) (MAX_SITE + 1 - (site + 1)) notes) ≡ all_notes notes
listed_more site listed notes given is within before =
    let one : MAX_SITE + 1 - site ≡ suc (MAX_SITE + 1 - (site + 1)) = omega (arith, within) in
    let rest = notes_from (site + 1) (MAX_SITE + 1 - (site + 1)) notes in
    ap (λ (n : Option Bytes). listed ++ note_before site n rest) (sym is)
    ∙ ap (λ count. listed ++ notes_from site count notes) (sym one) ∙ before

pub listed_none : (site : ℕ) (listed : List Note) (notes : Notes) → notes site ≡ None → site ≤ MAX_SITE → IsListedTo site listed notes → IsListedTo (site + 1) listed notes
listed_none site listed notes is within before = listed_more site listed notes None is within before

pub listed_one : (site : ℕ) (listed : List Note) (notes : Notes) (text : Bytes) → notes site ≡ Some text → site ≤ MAX_SITE → IsListedTo site listed notes
    → IsListedTo (site + 1) (listed ++ (site, text) ∷ []) notes
listed_one site listed notes text is within before =
    append_assoc listed ((site, text) ∷ []) _ ∙ listed_more site listed notes (Some text) is within before

pub push_all : {A : Type 0} (P : A → Type 0) (xs : List A) (x : A) → AllByRecursion P xs → P x → AllByRecursion P (xs ++ x ∷ [])
push_all P [] x all p = (p, tt)
push_all P (y ∷ ys) x all p = (all.0, push_all P ys x all.1 p)
