-- Lists that go on from the same beginning, and what holds of the parts of a list.
use Rattle.std.proofs.Common.{◌≡◌, ℕ, zero, suc, List, [], ◌∷◌, ◌++◌, length, map, take, refl, sym, ap, ◌∙◌, ◌⊎◌, inl, inr, subst}
use Rattle.std.specs.Prelude.{Option, Some, filter_map, slice_get}

module _ {A B : Type 0} (f : A → Option B) where
  -- lines that all read read one thing only
  pub same_read : (xs : List A) (ys zs : List B) → map f xs ≡ map Some ys → map f xs ≡ map Some zs → ys ≡ zs
  same_read xs ys zs e g = sym (values_read ys) ∙ ap (filter_map (λ o. o)) (sym e ∙ g) ∙ values_read zs
    where
      values_read : (bs : List B) → filter_map (λ o. o) (map Some bs) ≡ bs
      values_read [] = refl
      values_read (b ∷ bs) = ap (λ l. b ∷ l) (values_read bs)

  -- what was read of some lines, of the next and of the later ones
  pub record IsReadSplit (front : List A) (line : A) (read : List B) : Type 0 where
    pub before : List B
    pub this : B
    pub later : List B
    pub whole : read ≡ before ++ this ∷ later
    pub front_read : map f front ≡ map Some before
    pub line_read : f line ≡ Some this

  split_more : (x : A) (y : B) (front : List A) (line : A) (read : List B) → f x ≡ Some y → IsReadSplit front line read → IsReadSplit (x ∷ front) line (y ∷ read)
  split_more x y front line read e s = record {
    before = y ∷ s.before;
    this = s.this;
    later = s.later;
    whole = ap (λ (l : List B). y ∷ l) s.whole;
    front_read = λ i. e i ∷ s.front_read i;
    line_read = s.line_read;
  }

  pub split_read : (front : List A) (line : A) (later : List A) (read : List B) → map f (front ++ line ∷ later) ≡ map Some read → IsReadSplit front line read
  split_read [] line later [] e = absurd (cc)
  split_read [] line later (y ∷ ys) e = record { before = []; this = y; later = ys; whole = refl; front_read = refl; line_read = cc }
  split_read (x ∷ front) line later [] e = absurd (cc)
  split_read (x ∷ front) line later (y ∷ ys) e =
      let rest : map f (front ++ line ∷ later) ≡ map Some ys = cc in
      let head : f x ≡ Some y = cc in
      split_more x y front line ys head (split_read front line later ys rest)

  -- the lines before the one that reads as this, it, and the later ones
  pub record IsLineSplit (lines : List A) (read : List B) (place : ℕ) (this : B) : Type 0 where
    pub front : List A
    pub line : A
    pub later : List A
    pub whole : lines ≡ front ++ line ∷ later
    pub front_read : map f front ≡ map Some (take place read)
    pub line_read : f line ≡ Some this
    pub counted : place ≡ length front

  line_more : (x : A) (y : B) (lines : List A) (read : List B) (place : ℕ) (this : B) → f x ≡ Some y → IsLineSplit lines read place this → IsLineSplit (x ∷ lines) (y ∷ read) (suc place) this
  line_more x y lines read place this e s = record {
    front = x ∷ s.front;
    line = s.line;
    later = s.later;
    whole = ap (λ (l : List A). x ∷ l) s.whole;
    front_read = λ i. e i ∷ s.front_read i;
    line_read = s.line_read;
    counted = ap suc s.counted;
  }

  pub split_lines : (lines : List A) (read : List B) (place : ℕ) (this : B) → map f lines ≡ map Some read → slice_get read place ≡ Some this → IsLineSplit lines read place this
  split_lines lines [] place this e g = absurd (cc)
  split_lines [] (y ∷ ys) place this e g = absurd (cc)
  split_lines (x ∷ lines) (y ∷ ys) zero this e g =
      let head : f x ≡ Some y = cc in
      record { front = []; line = x; later = lines; whole = refl; front_read = refl; line_read = head ∙ g; counted = refl }
  split_lines (x ∷ lines) (y ∷ ys) (suc place) this e g =
      let rest : map f lines ≡ map Some ys = cc in
      let head : f x ≡ Some y = cc in
      line_more x y lines ys place this head (split_lines lines ys place this rest g)

-- of two beginnings of one list, each with what comes next, they are the same or one is in the other
abbrev pub AreNested : {A : Type 0} → List A → A → List A → A → Type 0
AreNested {A} front line other next =
    ((front ≡ other) × (line ≡ next))
    ⊎ (((later : List A) × (other ≡ front ++ line ∷ later)) ⊎ ((later : List A) × (front ≡ other ++ next ∷ later)))

nested_more : {A : Type 0} (x : A) (front other : List A) (line next : A) → AreNested front line other next → AreNested (x ∷ front) line (x ∷ other) next
nested_more {A} x front other line next n =
    elim n [
      | inl same ↦ inl (ap (λ (l : List A). x ∷ l) same.0, same.1)
      | inr far ↦ elim far [
        | inl s ↦ inr (inl (s.0, ap (λ (l : List A). x ∷ l) s.1))
        | inr s ↦ inr (inr (s.0, ap (λ (l : List A). x ∷ l) s.1))
      ]
    ]

pub nested : {A : Type 0} (front : List A) (line : A) (later other : List A) (next : A) (rest : List A) → front ++ line ∷ later ≡ other ++ next ∷ rest → AreNested front line other next
nested [] line later [] next rest e = inl (refl, cc)
nested {A} [] line later (y ∷ other) next rest e =
    let h : line ≡ y = cc in
    inr (inl (other, λ i. sym h i ∷ other))
nested {A} (x ∷ front) line later [] next rest e =
    let h : x ≡ next = cc in
    inr (inr (front, λ i. h i ∷ front))
nested {A} (x ∷ front) line later (y ∷ other) next rest e =
    let h : x ≡ y = cc in
    let t : front ++ line ∷ later ≡ other ++ next ∷ rest = cc in
    subst (λ z. AreNested (x ∷ front) line (z ∷ other) next) h (nested_more x front other line next (nested front line later other next rest t))
