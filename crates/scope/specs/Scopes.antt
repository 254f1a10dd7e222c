-- Which rooms a session may enter.
use Rattle.std.specs.Prelude.{◌≡◌, Bool, true, false, ℕ, [], ◌∷◌, ◌&&◌, ◌==◌, if◌then◌else◌}
use Rattle.std.specs.List.{before_first}
use Rattle.base_types.specs.Texts.{Bytes}
use Rattle.base_types.specs.RoomNames.{is_in_chain, is_first_name}
use Rattle.scope.specs.declared.scope.Scope.{Scope}
use Rattle.scope.specs.declared.scope.Scope.TheVariants.{Anywhere, Only, Nowhere}

abbrev pub allows : Scope → Bytes → Bool
allows Anywhere name = true
allows (Only first) name = is_in_chain first name
allows Nowhere name = false

-- `/NAME` is the rooms of the chain NAME, and any other path is none
abbrev pub scope_of_path : Bytes → Scope
scope_of_path [] = Nowhere
scope_of_path (first ∷ name) = if first == 47 && is_first_name name then Only name else Nowhere

abbrev pub is_query_mark : ℕ → Bool
is_query_mark byte = byte == 63

abbrev pub IsQuery : Bytes → Type 0
IsQuery [] = Unit {0}
IsQuery (first ∷ rest) = is_query_mark first ≡ true

abbrev pub path_of : Bytes → Bytes
path_of target = before_first is_query_mark target

-- by the target of a request; nothing is decoded
abbrev pub scope_of_target : Bytes → Scope
scope_of_target target = scope_of_path (path_of target)
