-- A room and the next one are of one chain.
use Rattle.std.proofs.Common.{◌≡◌, ℕ, ◌+◌, Bool, true, false, not, List, [], ◌∷◌, ◌++◌, take, suc, Option, Some, None, refl, sym, ap, ◌∙◌, cond, arith}
use Rattle.std.specs.Prelude.{decimal}
use Rattle.std.specs.List.{before_first, position_or_len}
use Rattle.base_types.specs.Texts.{Bytes}
use Rattle.base_types.specs.RoomNames.{is_dot, first_name, room_number, successor}

-- what stands before the first that passes, by the first of the list
before-cons : {X : Type 0} (p : X → Bool) (b : Bool) (x : X) (xs : List X) → p x ≡ b → before_first p (x ∷ xs) ≡ cond b [] (x ∷ before_first p xs)
before-cons p true x xs e = ap (λ t. take (cond (not t) (1 + position_or_len p xs) 0) (x ∷ xs)) e
before-cons p false x xs e =
    let on : 1 + position_or_len p xs ≡ suc (position_or_len p xs) = omega arith in
    ap (λ t. take (cond (not t) (1 + position_or_len p xs) 0) (x ∷ xs)) e ∙ ap (λ n. take n (x ∷ xs)) on

-- one that passes, put behind what stands before the first such one, is the first such one
before-stays : {X : Type 0} (p : X → Bool) (xs : List X) (c : X) (rest : List X) → p c ≡ true → before_first p (before_first p xs ++ c ∷ rest) ≡ before_first p xs
before-stays p [] c rest e = before-cons p true c rest e
before-stays {X} p (x ∷ xs) c rest e = by (p x) refl (before-stays p xs c rest e)
  where
    by : (b : Bool) → p x ≡ b → before_first p (before_first p xs ++ c ∷ rest) ≡ before_first p xs → before_first p (before_first p (x ∷ xs) ++ c ∷ rest) ≡ before_first p (x ∷ xs)
    by true h same =
        ap (λ l. before_first p (l ++ c ∷ rest)) (before-cons p true x xs h) ∙ before-cons p true c rest e ∙ sym (before-cons p true x xs h)
    by false h same =
        ap (λ l. before_first p (l ++ c ∷ rest)) (before-cons p false x xs h)
        ∙ before-cons p false x (before_first p xs ++ c ∷ rest) h
        ∙ ap (λ l. x ∷ l) same
        ∙ sym (before-cons p false x xs h)

-- the value of a choice that is one
chosen : {X : Type 0} (b : Bool) (x y : X) → Some y ≡ cond b (Some x) None → y ≡ x
chosen true x y e = cc
chosen false x y e = absurd cc

-- the next room of a chain is of the chain
pub successor_first : (name next : Bytes) → Some next ≡ successor name → first_name next ≡ first_name name
unfolding successor
successor_first name next e =
    ap first_name (chosen _ _ _ e) ∙ before-stays is_dot name 46 (decimal (room_number name + 1)) refl
