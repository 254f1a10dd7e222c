-- The row of a change that comes after all others, and what is stored once it is added.
use Rattle.std.proofs.Common.{◌≡◌, ℕ, ◌+◌, ◌^◌, ◌<◌, Bool, true, false, not, ◌&&◌, ◌||◌, List, [], ◌∷◌, ◌++◌, length, map, get_or, refl, sym, ap, ◌∙◌, subst, arith, inl, inr, eqb, cond}
use Rattle.std.specs.Prelude.{filter, nat_lt, Contains}
use Rattle.std.specs.List.{list_any}
use Rattle.std.proofs.lemmas.Bool.{true≢false, false_from_ne_true, and_left, and_right, not_from_true, or_cases, or_left, or_right, eqb-true, eq-eqb, cases_Bool}
use Rattle.std.proofs.lemmas.List.{length-append, map-append}
use Rattle.std.proofs.lemmas.List.FromFn.{map-range_with_len_more, get_or-map-range_with_len, length-map-range_with_len}
use Rattle.base_types.specs.Vectors.{counts}
use Rattle.base_types.specs.Names.{Name, is_op_name}
use Rattle.rules.specs.declared.history.Op.{Op}
use Rattle.rules.specs.Bodies.{are_at_odds}
use Rattle.rules.specs.Operations.{before, concurrent}
use Rattle.rules.specs.steps.Histories.{same_op}
use Rattle.rules.specs.Conflicts.{base, conflict, direct_conflict, members}
use Rattle.rules.proofs.Lists.{In, In-from_Contains, Contains-from_In, In-append_cases, In-filter, In-filter_back, any_from, any_back, any_agree, filter_agree, map_agree}
use Rattle.rules.proofs.Relation.{same_answer, conflict_symmetric}
use Rattle.rules.proofs.Counted.{same_name-true, same_name-refl}
use Rattle.rules.proofs.Changes.{in_known_back}
use Rattle.places.specs.steps.PlaceSet.{has, places}
use Rattle.places.specs.steps.Relations.{IsRelation}
use Rattle.conflict_rows.specs.steps.Stored.{AreStored}
use Rattle.places.specs.steps.Changes.{AreChangesOf, AreChangesOn, Added, IsAddition, at, places_of, base_places, new_conflicts}
use Rattle.conflict_rows.specs.steps.Rows.{earlier_conflicts, is_in_row, has_earlier_conflict, places_with_earlier_conflict}
use Rattle.places.proofs.Places.{In-places, below, has-filter, kept_next, left_next}
use Rattle.places.proofs.ChangesAt.{at_in, place_of, one_place_each, at_push, at_last, has-places_of, any-places_of}
use Rattle.places.proofs.Growth.{apart, once, few_changes, base_inside, base_within, never_alone, conflict_from_base_on, stays, is_there, apart_before, before_none, base_grows, conflict_grows}

-- ---- direct conflict with a later change

-- the test of direct conflict, where neither operation is before the other
direct_test_unknown : (p q d : Bool) → p ≡ false → q ≡ false → d ≡ ((not p && not q) && d)
direct_test_unknown false false d e t = refl
direct_test_unknown true q d e t = absurd (true≢false e)
direct_test_unknown false true d e t = absurd (true≢false t)

module _ {object : Name} (k : List Op) (o : Op) (w : AreChangesOf object (k ++ o ∷ [])) where
  abbrev pub with_last : List Op
  with_last = k ++ o ∷ []

  -- a change that the later one knows is in no direct conflict with it
  pub direct_if_known : (p : ℕ) → before (at k p) o ≡ true → direct_conflict o (at k p) ≡ false
  direct_if_known p t =
      let x = at k p in
      and_left (concurrent o x) (are_at_odds o.body x.body) (and_right (not (before o x)) (not (before x o)) (not_from_true (before x o) t))

  -- one that it doesn't know is, where the two are at odds
  pub direct_if_unknown : (p : ℕ) → p < length k → before (at k p) o ≡ false → are_at_odds o.body (at k p).body ≡ direct_conflict o (at k p)
  direct_if_unknown p l t =
      let x = at k p in
      direct_test_unknown (before o x) (before x o) (are_at_odds o.body x.body) (before_none k o w x (stays k o w x (at_in k p l))) t

  -- ---- the row

  -- a test on a change and its base, at their places
  test_with_base : (f : Op → Bool) (j : ℕ) → j < length k → list_any (has (j ∷ base_places k (at k j))) (filter (λ p. f (at k p)) (places (length k))) ≡ list_any f (at k j ∷ members (base k (at k j)))
  test_with_base f j l =
      let b = at k j in
      let g = members (base k b) in
      let kept : ℕ → Bool = λ p. f (at k p) in
      same_answer (list_any (has (j ∷ base_places k b)) (filter kept (places (length k)))) (list_any f (b ∷ g))
      (λ e.
      let c = any_back (has (j ∷ base_places k b)) (filter kept (places (length k))) e in
      let m = In-filter_back kept c.0 (places (length k)) c.1 in
      elim (or_cases (eqb j c.0) (has (base_places k b) c.0) c.2) [
        | inl q ↦ any_from f b (b ∷ g) (inl refl) (ap kept (eqb-true j c.0 q) ∙ m.1)
        | inr r ↦
            (let p : c.0 < length k = below (length k) c.0 m.0 in
            let d = any_back (same_op (at k c.0)) g (sym (has-places_of k g c.0 p) ∙ r) in
            let s : at k c.0 ≡ d.0 = apart_before k o w (at k c.0) d.0 (at_in k c.0 p) (base_inside k b d.0 d.1) (same_name-true (at k c.0).name d.0.name d.2) in
            any_from f d.0 (b ∷ g) (inr d.1) (sym (ap f s) ∙ m.1))
      ])
      (λ e.
      let c = any_back f (b ∷ g) e in
      elim c.1 [
        | inl q ↦ any_from (has (j ∷ base_places k b)) j (filter kept (places (length k))) (In-filter kept j (places (length k)) (In-places (length k) j l) (sym (ap f q) ∙ c.2)) (or_left (eqb j j) (has (base_places k b) j) (eq-eqb j j refl))
        | inr r ↦
            (let p = place_of c.0 k (base_inside k b c.0 r) in
            let t : has (base_places k b) p.place ≡ true = has-places_of k g p.place p.within ∙ any_from (same_op (at k p.place)) c.0 g r (same_name-refl (at k p.place).name c.0.name (ap (λ (x : Op). x.name) p.is)) in
            any_from (has (j ∷ base_places k b)) p.place (filter kept (places (length k))) (In-filter kept p.place (places (length k)) (In-places (length k) p.place p.within) (ap f p.is ∙ c.2)) (or_right (eqb j p.place) (has (base_places k b) p.place) t))
      ])

  pub listed_is : filter (has (base_places k o)) (places (length k)) ≡ base_places k o
  listed_is = filter_agree (has (base_places k o)) (λ p. list_any (same_op (at k p)) (members (base k o))) (places (length k)) (λ p m. has-places_of k (members (base k o)) p (below (length k) p m))

  joined : (b : Op) → In b k → list_any (λ p. conflict k (at k p) b) (base_places k o) ≡ list_any (λ x. conflict with_last x b) (members (base with_last o))
  joined b m =
      let g = members (base k o) in
      any-places_of k g (apart_before k o w) (base_inside k o) (λ x. conflict k x b)
      ∙ any_agree (λ x. conflict k x b) (λ x. conflict with_last x b) g (λ x l. conflict_grows k o w x b (stays k o w x (base_inside k o x l)) (stays k o w b m))
      ∙ ap (λ r. list_any (λ x. conflict with_last x b) (members r)) (base_grows k o w o (is_there k o w))

  in_row : (j : ℕ) → j < length k → is_in_row k (filter (λ p. direct_conflict o (at k p)) (places (length k))) (base_places k o) j ≡ conflict with_last o (at k j)
  in_row j l =
      let b = at k j in
      let m = at_in k j l in
      let first = test_with_base (direct_conflict o) j l ∙ ap (λ r. list_any (direct_conflict o) (b ∷ members r)) (base_grows k o w b (stays k o w b m)) in
      (λ i. first i || joined b m i) ∙ sym (conflict_from_base_on w o b (is_there k o w) (stays k o w b m))

  -- the row that is made from the places of the direct conflicts and of the base
  pub row_is : (based direct listed row : List ℕ) → based ≡ base_places k o
      → direct ≡ filter (λ p. direct_conflict o (at k p)) (places (length k)) → listed ≡ filter (has based) (places (length k))
      → row ≡ filter (is_in_row k direct listed) (places (length k))
      → row ≡ new_conflicts k o
  row_is based direct listed row b d s r =
      let listed_same : listed ≡ base_places k o = s ∙ ap (λ x. filter (has x) (places (length k))) b ∙ listed_is in
      r
      ∙ (λ i. filter (is_in_row k (d i) (listed_same i)) (places (length k)))
      ∙ filter_agree
      (is_in_row k (filter (λ p. direct_conflict o (at k p)) (places (length k))) (base_places k o))
      (λ j. conflict with_last o (at k j)) (places (length k)) (λ j m. in_row j (below (length k) j m))

  -- ---- what is stored, with one change more

  one_more : length with_last ≡ length k + 1
  one_more = length-append k (o ∷ [])

  base_places_grow : (x : Op) → In x with_last → base_places with_last x ≡ base_places k x
  base_places_grow x m =
      let g = members (base k x) in
      let test : ℕ → Bool = λ p. list_any (same_op (at with_last p)) g in
      let out : list_any (same_op o) g ≡ false = false_from_ne_true (list_any (same_op o) g) (λ e.
      let c = any_back (same_op o) g e in
      let t : o.name ≡ c.0.name = same_name-true o.name c.0.name c.2 in
      true≢false (sym (ap (counts x.seen) t ∙ (in_known_back k x c.0 (base_within k x c.0 c.1)).earlier) ∙ before_none k o w x m)) in
      let last : test (length k) ≡ false = ap (λ z. list_any (same_op z) g) (at_last k o) ∙ out in
      ap (λ r. places_of with_last (members r)) (sym (base_grows k o w x m))
      ∙ ap (λ n. filter test (places n)) one_more
      ∙ left_next test (length k) last
      ∙ filter_agree test (λ p. list_any (same_op (at k p)) g) (places (length k)) (λ p n. ap (λ z. list_any (same_op z) g) (at_push k o p (below (length k) p n)))

  bases_grow : map (base_places with_last) with_last ≡ map (base_places k) k ++ base_places k o ∷ []
  bases_grow =
      map-append (base_places with_last) k (o ∷ [])
      ∙ (λ i. map_agree (base_places with_last) (base_places k) k (λ x m. base_places_grow x (stays k o w x m)) i ++ base_places_grow o (is_there k o w) i ∷ [])

  row_stays : (p : ℕ) → p < length k → earlier_conflicts with_last p ≡ earlier_conflicts k p
  row_stays p l = filter_agree (λ j. conflict with_last (at with_last p) (at with_last j)) (λ j. conflict k (at k p) (at k j)) (places p) (λ j m.
      let b = below p j m in
      let n : j < length k = omega arith in
      (λ i. conflict with_last (at_push k o p l i) (at_push k o j n i))
      ∙ sym (conflict_grows k o w (at k p) (at k j) (stays k o w (at k p) (at_in k p l)) (stays k o w (at k j) (at_in k j n))))

  last_row : earlier_conflicts with_last (length k) ≡ new_conflicts k o
  last_row = filter_agree (λ j. conflict with_last (at with_last (length k)) (at with_last j)) (λ j. conflict with_last o (at k j)) (places (length k)) (λ j m.
      λ i. conflict with_last (at_last k o i) (at_push k o j (below (length k) j m) i))

  rows_grow : map (earlier_conflicts with_last) (places (length with_last)) ≡ map (earlier_conflicts k) (places (length k)) ++ new_conflicts k o ∷ []
  rows_grow =
      ap (λ n. map (earlier_conflicts with_last) (places n)) one_more
      ∙ map-range_with_len_more (earlier_conflicts with_last) 0 (length k) (length k) (omega arith)
      ∙ (λ i. map_agree (earlier_conflicts with_last) (earlier_conflicts k) (places (length k)) (λ p m. row_stays p (below (length k) p m)) i ++ last_row i ∷ [])

  -- the places of those in conflict with an earlier one
  late_stay : filter (has_earlier_conflict with_last) (places (length k)) ≡ places_with_earlier_conflict k
  late_stay = filter_agree (has_earlier_conflict with_last) (has_earlier_conflict k) (places (length k)) (λ p m. ap (λ (r : List ℕ). nat_lt 0 (length r)) (row_stays p (below (length k) p m)))

  late_grow : cond (nat_lt 0 (length (new_conflicts k o))) (places_with_earlier_conflict k ++ length k ∷ []) (places_with_earlier_conflict k) ≡ places_with_earlier_conflict with_last
  late_grow =
      let last : has_earlier_conflict with_last (length k) ≡ nat_lt 0 (length (new_conflicts k o)) = ap (λ (r : List ℕ). nat_lt 0 (length r)) last_row in
      let more : places_with_earlier_conflict with_last ≡ filter (has_earlier_conflict with_last) (places (length k + 1)) = ap (λ n. filter (has_earlier_conflict with_last) (places n)) one_more in
      elim (cases_Bool (nat_lt 0 (length (new_conflicts k o)))) [
        | inl t ↦ rw t (sym (more ∙ kept_next (has_earlier_conflict with_last) (length k) (last ∙ t) ∙ ap (λ (l : List ℕ). l ++ length k ∷ []) late_stay))
        | inr t ↦ rw t (sym (more ∙ left_next (has_earlier_conflict with_last) (length k) (last ∙ t) ∙ late_stay))
      ]

-- there are few changes, also with one more
module _ (k : List Op) (o : Op) (named : (x : Op) → Contains k x → is_op_name x.name ≡ true) (name : is_op_name o.name ≡ true) where
  all_named : (x : Op) → In x (k ++ o ∷ []) → is_op_name x.name ≡ true
  all_named x m = elim (In-append_cases x k (o ∷ []) m) [
    | inl l ↦ named x (Contains-from_In x k l)
    | inr l ↦ elim l [ inl e ↦ ap (λ (z : Op). is_op_name z.name) e ∙ name | inr f ↦ absurd f ]
  ]

  few_after : {object : Name} → AreChangesOf object (k ++ o ∷ []) → length (k ++ o ∷ []) < 2 ^ 32
  few_after w = few_changes w all_named

  pub few_with_one_more : {object : Name} → AreChangesOf object (k ++ o ∷ []) → length k + 1 < 2 ^ 32
  few_with_one_more w = omega (arith, few_after w, length-append k (o ∷ []))

pub stored_push : {object : Name} (k : List Op) (bases rows : List (List ℕ)) (late conflicting : List ℕ) (a : Added) → AreStored object k bases rows late conflicting → IsAddition object k a → is_op_name a.op.name ≡ true
    → AreStored object (k ++ a.op ∷ []) (bases ++ a.base ∷ []) (rows ++ a.row ∷ []) (cond (nat_lt 0 (length a.row)) (late ++ length k ∷ []) late) a.conflicting
stored_push {object} k bases rows late conflicting a s w name = record {
  changes = w.changes;
  named = λ x m. all_named k a.op s.named name x (In-from_Contains x (k ++ a.op ∷ []) m);
  few = few_after k a.op s.named name w.changes.listed;
  bases_are = (λ i. s.bases_are i ++ w.base i ∷ []) ∙ sym (bases_grow k a.op w.changes.listed);
  rows_are = (λ i. s.rows_are i ++ w.row i ∷ []) ∙ sym (rows_grow k a.op w.changes.listed);
  late_are = (λ i. cond (nat_lt 0 (length (w.row i))) (s.late_are i ++ length k ∷ []) (s.late_are i)) ∙ late_grow k a.op w.changes.listed;
  conflicting_are = w.conflicting;
}

-- ---- look-ups

pub row_found : (k : List Op) (rows : List (List ℕ)) (p : ℕ) (d : List ℕ) → rows ≡ map (earlier_conflicts k) (places (length k)) → p < length k → get_or rows p d ≡ earlier_conflicts k p
row_found k rows p d e l = ap (λ r. get_or r p d) e ∙ get_or-map-range_with_len (earlier_conflicts k) 0 (length k) p p d l (omega arith)

pub rows_length : (k : List Op) (rows : List (List ℕ)) → rows ≡ map (earlier_conflicts k) (places (length k)) → length rows ≡ length k
rows_length k rows e = ap length e ∙ length-map-range_with_len (earlier_conflicts k) 0 (length k)

module _ {object : Name} {k : List Op} (w : AreChangesOn object k) where
  same_place : (i j : ℕ) → i < length k → j < length k → (at k i).name ≡ (at k j).name → i ≡ j
  same_place i j l m e = one_place_each k i j (once w.listed) l m (apart w.listed (at k i) (at k j) (at_in k i l) (at_in k j m) e)

  pub is_relation : IsRelation (length k) (λ i. (at k i).name) (λ i j. conflict k (at k i) (at k j))
  is_relation = record {
    both_ways = λ i j l m. conflict_symmetric k (at k i) (at k j);
    never_alone = λ i l. never_alone w (at k i) (at_in k i l);
    one_each = same_place;
  }

-- ---- with one change more

module _ {object : Name} (k : List Op) (a : Added) (w : IsAddition object k a) (ops : List Op) (e : k ++ a.op ∷ [] ≡ ops) where
  abbrev with_addition : List Op
  with_addition = k ++ a.op ∷ []

  pub one_change_more : length ops ≡ length k + 1
  one_change_more = ap length (sym e) ∙ length-append k (a.op ∷ [])

  pub changes_with_addition : AreChangesOn object ops
  changes_with_addition = subst (AreChangesOn object) e w.changes

  pub last_in_row : (i j : ℕ) → i ≡ length k → j < length k → has a.row j ≡ conflict ops (at ops i) (at ops j)
  last_in_row i j q l =
      ap (λ r. has r j) w.row
      ∙ has-filter (λ p. conflict with_addition a.op (at k p)) (length k) j l
      ∙ (λ t. conflict with_addition (sym (at_last k a.op) t) (sym (at_push k a.op j l) t))
      ∙ (λ t. conflict (e t) (at (e t) (sym q t)) (at (e t) j))

  pub conflict_stays : (i j : ℕ) → i < length k → j < length k → conflict k (at k i) (at k j) ≡ conflict ops (at ops i) (at ops j)
  conflict_stays i j l m =
      conflict_grows k a.op w.changes.listed (at k i) (at k j) (stays k a.op w.changes.listed (at k i) (at_in k i l)) (stays k a.op w.changes.listed (at k j) (at_in k j m))
      ∙ (λ t. conflict with_addition (sym (at_push k a.op i l) t) (sym (at_push k a.op j m) t))
      ∙ (λ t. conflict (e t) (at (e t) i) (at (e t) j))
