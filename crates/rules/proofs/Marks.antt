-- A key whose mark is not there is none of those before.
use Rattle.std.proofs.Common.{◌≡◌, ℕ, ◌+◌, ◌<◌, Bool, true, false, List, length, take, sym, ap, ◌∙◌, subst, inl, inr}
use Rattle.std.specs.Prelude.{slice_index_or, slice_set}
use Rattle.std.specs.List.{list_any}
use Rattle.std.proofs.lemmas.Bool.{cases_Bool, cases_eq, true≢false}
use Rattle.std.proofs.lemmas.List.{get_or-set_same, get_or-set_other}
use Rattle.std.proofs.lemmas.List.Elements.{All-more}
use Rattle.rules.specs.AttrLists.{Attr, same_key}
use Rattle.rules.specs.steps.Marks.{mark_of, HaveMarks}
use Rattle.rules.proofs.Lists.{Contains-from_In, any_back}
use Rattle.rules.proofs.Reordered.{same_key_is}

-- a mark that is there stays
mark_stays : (marks : List Bool) (m j : ℕ) → m < length marks → slice_index_or marks j false ≡ true → slice_index_or (slice_set marks m true) j false ≡ true
mark_stays marks m j below there = elim (cases_eq j m) [
  | inl same ↦ subst (λ i. slice_index_or (slice_set marks m true) i false ≡ true) (sym same) (get_or-set_same marks m true false below)
  | inr other ↦ get_or-set_other marks m j true false other ∙ there
]

pub marks_more : (marks : List Bool) (attrs : List Attr) (i : ℕ) (attr : Attr) → i < length attrs → attr ≡ slice_index_or attrs i attr → mark_of attr.0 < length marks
    → HaveMarks marks (take i attrs) → HaveMarks (slice_set marks (mark_of attr.0) true) (take (i + 1) attrs)
marks_more marks attrs i attr below is within have =
    let marks' : List Bool = slice_set marks (mark_of attr.0) true in
    All-more (λ (one : Attr). slice_index_or marks' (mark_of one.0) false ≡ true) attrs i attr below
    (λ k d l. mark_stays marks (mark_of attr.0) (mark_of (slice_index_or (take i attrs) k d).0) within (have k d l))
    (subst (λ (one : Attr). slice_index_or marks' (mark_of one.0) false ≡ true) is (get_or-set_same marks (mark_of attr.0) true false within))

pub unmarked : (marks : List Bool) (earlier : List Attr) (attr : Attr) → HaveMarks marks earlier → slice_index_or marks (mark_of attr.0) false ≡ false → list_any (λ one. same_key one attr) earlier ≡ false
unmarked marks earlier attr have none = elim (cases_Bool (list_any (λ one. same_key one attr) earlier)) [
  | inr f ↦ f
  | inl t ↦
      (let found = any_back (λ one. same_key one attr) earlier t in
      let c = Contains-from_In found.0 earlier found.1 in
      let there : slice_index_or marks (mark_of found.0.0) false ≡ true = subst (λ (one : Attr). slice_index_or marks (mark_of one.0) false ≡ true) c.2 (have c.0 found.0 c.1) in
      absurd (true≢false (sym there ∙ ap (λ key. slice_index_or marks (mark_of key) false) (same_key_is found.0.0 attr.0 found.2) ∙ none)))
]
