-- The parts of a request's target.
use Rattle.std.proofs.Common.{◌≡◌, ◌∷◌, ◌++◌, [], ℕ, ◌+◌, suc, Bool, true, false, cond, not, take, refl, ap, sym, ◌∙◌, arith, rules}
use Rattle.std.specs.List.{position_or_len}
use Rattle.base_types.specs.Texts.{Bytes}
use Rattle.base_types.specs.RoomNames.{first_name}
use Rattle.scope.specs.Scopes.{IsQuery, allows, is_query_mark, path_of, scope_of_path, scope_of_target}

-- behind the path stands nothing or a query
abbrev pub Splits : Bytes → Type 0
Splits target = (query : Bytes) × (target ≡ path_of target ++ query) × IsQuery query

splits_at : (byte : ℕ) (rest : Bytes) → Splits rest → (b : Bool) → is_query_mark byte ≡ b → Splits (byte ∷ rest)
splits_at byte rest more true is =
    let none : path_of (byte ∷ rest) ≡ [] = ap (λ b. take (cond (not b) (1 + position_or_len is_query_mark rest) 0) (byte ∷ rest)) is in
    (byte ∷ rest, sym (ap (λ (path : Bytes). path ++ byte ∷ rest) none), is)
splits_at byte rest more false is =
    let on : 1 + position_or_len is_query_mark rest ≡ suc (position_or_len is_query_mark rest) = omega arith in
    let one : path_of (byte ∷ rest) ≡ byte ∷ path_of rest =
    ap (λ b. take (cond (not b) (1 + position_or_len is_query_mark rest) 0) (byte ∷ rest)) is
    ∙ ap (λ n. take n (byte ∷ rest)) on in
    (more.0, ap (λ (tail : Bytes). byte ∷ tail) more.1 ∙ sym (ap (λ (path : Bytes). path ++ more.0) one), more.2)

pub query_of : (target : Bytes) → Splits target
query_of [] = ([], refl, tt)
query_of (byte ∷ rest) = splits_at byte rest (query_of rest) (is_query_mark byte) refl

-- only the path of a slash and the name lets into the room of the name
pub path_is : (path name : Bytes) → allows (scope_of_path path) name ≡ true → path ≡ 47 ∷ first_name name
path_is = search rules

-- a scope of a target lets into the room of the target alone
pub room_of_target : (target name : Bytes) → allows (scope_of_target target) name ≡ true → (query : Bytes) × (target ≡ 47 ∷ first_name name ++ query) × IsQuery query
room_of_target target name allowed =
    let found = query_of target in
    (found.0, found.1 ∙ ap (λ (path : Bytes). path ++ found.0) (path_is (path_of target) name allowed), found.2)
