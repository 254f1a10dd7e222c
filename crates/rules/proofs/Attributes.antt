-- The operations that could decide a key agree, and a group is shown the same in all histories that have it.
use Rattle.std.proofs.Common.{◌≡◌, true, false, List, [], ◌∷◌, map, refl, sym, ◌∙◌, inl, inr, ◌&&◌, not}
use Rattle.std.specs.Prelude.{Contains, IsTrue}
use Rattle.std.specs.List.{list_any}
use Rattle.std.proofs.lemmas.Bool.{true≢false, and_parts, and_cases, not-true, or_parts, or_left, and_from, not_from_false}
use Rattle.base_types.specs.Names.{Name}
use Rattle.base_types.specs.Texts.{Bytes}
use Rattle.rules.specs.declared.history.Op.{Op}
use Rattle.rules.specs.Bodies.{value_of_body, differ_on_a_key, is_one_a_drop, are_at_odds}
use Rattle.rules.specs.Operations.{IsHistory, before, concurrent, creation_of, name_of, changes_on}
use Rattle.rules.specs.steps.Histories.{is_past, same_op}
use Rattle.rules.specs.Conflicts.{base, conflict, direct_conflict}
use Rattle.rules.specs.Versions.{gives, decides, groups, version_of, shown_of, initial_of}
use Rattle.rules.proofs.Lists.{In, In-from_Contains, Contains-from_In, any_none}
use Rattle.rules.proofs.Bodies.{one_value}
use Rattle.rules.proofs.Counted.{same_name-refl}
use Rattle.rules.proofs.Changes.{in_changes_on_back, one_op}
use Rattle.rules.proofs.Groups.{group_is, group_within}
use Rattle.rules.proofs.Relation.{no_direct_conflict}

record Last (key : Bytes) (g : List Op) (a : Op) : Type 0 where
  gives_it : gives key a ≡ true
  none_later : (x : Op) → In x g → gives key x ≡ true → before a x ≡ false

last_if : (key : Bytes) (g : List Op) (a : Op) → decides key g a ≡ true → Last key g a
last_if key g a e =
    let c = and_parts (gives key a) (not (list_any (λ x. gives key x && before a x) g)) e in
    record {
      gives_it = c.0;
      none_later = λ x m t. elim (and_cases (gives key x) (before a x) (any_none (λ x. gives key x && before a x) x g (not-true _ c.1) m)) [ inl z ↦ absurd (true≢false (sym t ∙ z)) | inr z ↦ z ];
    }

-- two operations that aren't in conflict and both could decide a key give it one value
pub one_value_decided : (h : List Op) (g : List Op) (key : Bytes) (a b : Op) → conflict h a b ≡ false → In a g → decides key g a ≡ true → In b g → decides key g b ≡ true → value_of_body key a.body ≡ value_of_body key b.body
unfolding conflict
one_value_decided h g key a b free ma da mb db =
    let p = last_if key g a da in
    let q = last_if key g b db in
    let ab : before a b ≡ false = p.none_later b mb q.gives_it in
    let ba : before b a ≡ false = q.none_later a ma p.gives_it in
    let apart : concurrent a b ≡ true = and_from (not (before a b)) (not (before b a)) (not_from_false _ ab) (not_from_false _ ba) in
    let direct : direct_conflict a b ≡ false = no_direct_conflict (base h) a b a b free (inl refl) (inl refl) in
    let even : are_at_odds a.body b.body ≡ false = elim (and_cases (concurrent a b) (are_at_odds a.body b.body) direct) [ inl z ↦ absurd (true≢false (sym apart ∙ z)) | inr z ↦ z ] in
    one_value key a.body b.body p.gives_it q.gives_it (or_parts (differ_on_a_key a.body b.body) (is_one_a_drop a.body b.body) even).0

-- all operations of a group that could decide a key give it one value
pub one_decision : (h : List Op) (object : Name) (g : List Op) (key : Bytes) (a b : Op) → Contains (groups h object) g → Contains g a → IsTrue (decides key g a) → Contains g b → IsTrue (decides key g b) → value_of_body key a.body ≡ value_of_body key b.body
unfolding groups
one_decision h object g key a b group ma da mb db =
    let i = group_is (conflict h) (changes_on h object) g (In-from_Contains g (groups h object) group) in
    one_value_decided h g key a b (i.compatible a b ma mb) (In-from_Contains a g ma) da (In-from_Contains b g mb) db

-- ---- two histories

-- lists of operations with the same names, where these are the same operations
same_listed : (f g : List Op) → map name_of f ≡ map name_of g → ((a b : Op) → In a f → In b g → a.name ≡ b.name → a ≡ b) → f ≡ g
same_listed [] [] e d = refl
same_listed [] (b ∷ g) e d = absurd cc
same_listed (a ∷ f) [] e d = absurd cc
same_listed (a ∷ f) (b ∷ g) e d =
    let first : a.name ≡ b.name = heads a.name b.name (map name_of f) (map name_of g) e in
    let rest : map name_of f ≡ map name_of g = tails a.name b.name (map name_of f) (map name_of g) e in
    let here : a ≡ b = d a b (inl refl) (inl refl) first in
    let later : f ≡ g = same_listed f g rest (λ x y m n. d x y (inr m) (inr n)) in
    λ i. here i ∷ later i
  where
    heads : (m n : Name) (ms ns : List Name) → m ∷ ms ≡ n ∷ ns → m ≡ n
    heads m n ms ns q = cc

    tails : (m n : Name) (ms ns : List Name) → m ∷ ms ≡ n ∷ ns → ms ≡ ns
    tails m n ms ns q = cc

-- a group of two histories that agree on the creation, on its operations and on all before them is shown the same in both
pub same_shown : (h k : List Op) (object : Name) (f g : List Op) → IsHistory h → IsHistory k
    → Contains (groups h object) f → Contains (groups k object) g → map name_of f ≡ map name_of g
    → creation_of h object ≡ creation_of k object
    → ((a x : Op) → Contains f a → Contains h x → IsTrue (is_past a x) → Contains k x)
    → (version_of h object f).shown ≡ (version_of k object g).shown
unfolding groups version_of
same_shown h k object f g i j mf mg names creation agree =
    let in_h : (a : Op) → In a f → In a h = λ a m. (in_changes_on_back h object a (group_within (conflict h) (changes_on h object) f (In-from_Contains f (groups h object) mf) a m)).0 in
    let in_k : (a : Op) → In a g → In a k = λ a m. (in_changes_on_back k object a (group_within (conflict k) (changes_on k object) g (In-from_Contains g (groups k object) mg) a m)).0 in
    let moved : (a : Op) → In a f → In a k = λ a m. In-from_Contains a k (agree a a (Contains-from_In a f m) (Contains-from_In a h (in_h a m)) (or_left (same_op a a) (before a a) (same_name-refl a.name a.name refl))) in
    let same : f ≡ g = same_listed f g names (λ a b m n e. one_op j a b (moved a m) (in_k b n) e) in
    λ t. shown_of (initial_of (creation t)) (same t)
