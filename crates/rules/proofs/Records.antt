-- What one more entry does to a record.
use Rattle.std.proofs.Common.{◌≡◌, ℕ, ◌+◌, ◌≤◌, Bool, true, false, cond, not, None, List, [], ◌∷◌, ◌++◌, length, refl, sym, ap, ◌∙◌, subst, filter, arith}
use Rattle.std.proofs.lemmas.List.Elements.{filter-append, filter_map-append}
use Rattle.std.proofs.lemmas.List.{append-nil, append_assoc}
use Rattle.std.proofs.lemmas.List.Folds.{list_any-append}
use Rattle.std.proofs.lemmas.List.Sums.{sum_by_push, count_by-le-length}
use Rattle.std.specs.Prelude.{◌==◌, ◌||◌}
use Rattle.rules.specs.declared.history.Op.{Op}
use Rattle.rules.specs.declared.history.Entry.{Entry}
use Rattle.rules.specs.declared.history.Entry.TheVariants.{Join, Operation, Next}
use Rattle.rules.specs.declared.limits.LimitValues.{LimitValues}
use Rattle.rules.specs.Bodies.{is_change_body}
use Rattle.rules.specs.Admission.{count_at_site}
use Rattle.rules.specs.Records.{operation_in, operations, sites, objects, is_join, is_end, has_ended, admits, IsLegal, EachAfter}

pub filter-push : {X : Type 0} (p : X → Bool) (xs : List X) (x : X) → filter p (xs ++ x ∷ []) ≡ filter p xs ++ cond (p x) (x ∷ []) []
filter-push p xs x = filter-append p xs (x ∷ [])

or-false : (b : Bool) → (b || false) ≡ b
or-false true = refl
or-false false = refl

abbrev creates : Op → Bool
creates op = not (is_change_body op.body)

module _ (r : List Entry) where
  pub operations-join : (site : ℕ) → operations (r ++ Join site ∷ []) ≡ operations r
  operations-join site = filter_map-append operation_in r (Join site ∷ []) ∙ append-nil (operations r)

  pub operations-push : (op : Op) → operations (r ++ Operation op ∷ []) ≡ operations r ++ op ∷ []
  operations-push op = filter_map-append operation_in r (Operation op ∷ [])

  pub sites-join : (site : ℕ) → sites (r ++ Join site ∷ []) ≡ sites r + 1
  sites-join site = sum_by_push (λ x. cond (is_join x) 1 0) r (Join site)

  pub sites-operation : (op : Op) → sites (r ++ Operation op ∷ []) ≡ sites r
  sites-operation op = (let e : sites (r ++ Operation op ∷ []) ≡ sites r + 0 = sum_by_push (λ x. cond (is_join x) 1 0) r (Operation op) in omega (arith, e))

  pub operations-end : (count : ℕ) → operations (r ++ Next count ∷ []) ≡ operations r
  operations-end count = filter_map-append operation_in r (Next count ∷ []) ∙ append-nil (operations r)

  pub sites-end : (count : ℕ) → sites (r ++ Next count ∷ []) ≡ sites r
  sites-end count = (let e : sites (r ++ Next count ∷ []) ≡ sites r + 0 = sum_by_push (λ x. cond (is_join x) 1 0) r (Next count) in omega (arith, e))

  pub objects-end : (count : ℕ) → objects (r ++ Next count ∷ []) ≡ objects r
  objects-end count = ap (filter creates) (operations-end count)

  -- an entry that is no operation adds none, and no object
  pub operations-alone : (e : Entry) → operation_in e ≡ None → operations (r ++ e ∷ []) ≡ operations r
  operations-alone e none = filter_map-append operation_in r (e ∷ []) ∙ rw none (append-nil (operations r))

  pub objects-alone : (e : Entry) → operation_in e ≡ None → objects (r ++ e ∷ []) ≡ objects r
  objects-alone e none = ap (filter creates) (operations-alone e none)

  -- a record has ended if it had, or with this entry
  pub has_ended-push : (e : Entry) → has_ended (r ++ e ∷ []) ≡ has_ended r || is_end e
  has_ended-push e = list_any-append is_end r (e ∷ []) ∙ ap (λ b. has_ended r || b) (or-false (is_end e))

  pub has_ended-kept : (e : Entry) → is_end e ≡ false → has_ended (r ++ e ∷ []) ≡ has_ended r
  has_ended-kept e f = has_ended-push e ∙ rw f (or-false (has_ended r))

  pub objects-join : (site : ℕ) → objects (r ++ Join site ∷ []) ≡ objects r
  objects-join site = ap (filter creates) (operations-join site)

  pub objects-creation : (op : Op) → is_change_body op.body ≡ false → objects (r ++ Operation op ∷ []) ≡ objects r ++ op ∷ []
  objects-creation op e = ap (filter creates) (operations-push op) ∙ filter-push creates (operations r) op ∙ ap (λ b. objects r ++ cond (not b) (op ∷ []) []) e

-- ---- legal records

legal_push_after : (b : LimitValues) (r rest : List Entry) (e : Entry) → EachAfter (admits b) r rest → admits b (r ++ rest) e ≡ true → EachAfter (admits b) r (rest ++ e ∷ [])
legal_push_after b r [] e g a = (ap (λ x. admits b x e) (sym (append-nil r)) ∙ a, tt)
legal_push_after b r (x ∷ rest) e g a = (g.0, legal_push_after b (r ++ x ∷ []) rest e g.1 (ap (λ y. admits b y e) (append_assoc r (x ∷ []) rest) ∙ a))

-- an admitted entry keeps a record legal
pub legal_push : (b : LimitValues) (r : List Entry) (e : Entry) → IsLegal b r → admits b r e ≡ true → IsLegal b (r ++ e ∷ [])
legal_push b r e g a = legal_push_after b [] r e g a

-- each entry of a legal record is admitted by those before it
pub admitted_at : (b : LimitValues) (r before : List Entry) (e : Entry) (later : List Entry) → EachAfter (admits b) r (before ++ e ∷ later) → admits b (r ++ before) e ≡ true
admitted_at b r [] e later g = ap (λ x. admits b x e) (append-nil r) ∙ g.0
admitted_at b r (x ∷ before) e later g = ap (λ y. admits b y e) (sym (append_assoc r (x ∷ []) before)) ∙ admitted_at b (r ++ x ∷ []) before e later g.1

-- what each admitted entry keeps, a legal record has
kept_after : (b : LimitValues) (P : List Entry → Type 0) → ((r : List Entry) (e : Entry) → IsLegal b r → P r → admits b r e ≡ true → P (r ++ e ∷ [])) → (r rest : List Entry) → IsLegal b r → P r → EachAfter (admits b) r rest → P (r ++ rest)
kept_after b P keeps r [] l p g = subst P (sym (append-nil r)) p
kept_after b P keeps r (e ∷ rest) l p g = subst P (append_assoc r (e ∷ []) rest) (kept_after b P keeps (r ++ e ∷ []) rest (legal_push b r e l g.0) (keeps r e l p g.0) g.1)

pub kept_by_admitted : (b : LimitValues) (P : List Entry → Type 0) → ((r : List Entry) (e : Entry) → IsLegal b r → P r → admits b r e ≡ true → P (r ++ e ∷ [])) → P [] → (r : List Entry) → IsLegal b r → P r
kept_by_admitted b P keeps p r g = kept_after b P keeps [] r tt p g

-- ---- counts

pub length-operations : (r : List Entry) → length (operations r) ≤ length r
length-operations [] = omega arith
length-operations (Join n ∷ r) = omega (arith, length-operations r)
length-operations (Operation op ∷ r) = omega (arith, length-operations r)
length-operations (Next n ∷ r) = omega (arith, length-operations r)

-- no site has more operations than the record has entries
pub count_at_site-length : (r : List Entry) (site : ℕ) → count_at_site (operations r) site ≤ length r
count_at_site-length r site = omega (arith, length-operations r, count_by-le-length (λ (op : Op). op.name.0 == site) (operations r))
