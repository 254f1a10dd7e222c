-- What was written so far.
use Rattle.std.proofs.Common.{◌≡◌, ℕ, ◌+◌, ◌-◌, ◌≤◌, List, [], append-nil, length, take, drop, Option, refl, sym, subst, arith}
use Rattle.std.proofs.lemmas.List.{take_rest, take-append-drop, length-take, length-drop}
use Rattle.std.proofs.Math.Seq.{take-add}
use Rattle.std.proofs.KnownBytes.{Appends-trans, Appends-nil}
use Rattle.std.specs.Io.KnownBytes.{Appends}
use Rattle.byte_streams.specs.Prefixes.{AppendsPrefix}

pub front_at : (old new : Option (List ℕ)) (n : ℕ) (bytes : List ℕ) → Appends old new (take n bytes) → AppendsPrefix old new bytes
front_at old new n bytes h = record { prefix = take n bytes; rest = drop n bytes; adds = h; whole = sym (take-append-drop n bytes) }

pub wrote_more : (a b c : Option (List ℕ)) (n m : ℕ) (bytes : List ℕ) → Appends a b (take n bytes) → Appends b c (take m (take (length bytes - n) (drop n bytes))) → Appends a c (take (n + m) bytes)
wrote_more a b c n m bytes p q =
    let next : Appends b c (take m (drop n bytes)) = rw take_rest at q in
    subst (Appends a c) (sym (take-add n m bytes)) (Appends-trans a b c _ _ p next)

pub wrote_within : (n m : ℕ) (bytes : List ℕ) → n ≤ length bytes → m ≤ length (take (length bytes - n) (drop n bytes)) → n + m ≤ length bytes
wrote_within n m bytes h k = omega (arith, length-take (length bytes - n) (drop n bytes), length-drop n bytes, k, h)

pub no_front : (a : Option (List ℕ)) (bytes : List ℕ) → AppendsPrefix a a bytes
no_front a bytes = record { prefix = []; rest = bytes; adds = Appends-nil a; whole = refl }

pub whole_front : (a b : Option (List ℕ)) (bytes : List ℕ) → Appends a b bytes → AppendsPrefix a b bytes
whole_front a b bytes h = record { prefix = bytes; rest = []; adds = h; whole = sym (append-nil bytes) }
