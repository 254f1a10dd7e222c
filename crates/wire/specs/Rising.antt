-- Lists in strictly rising order.
use Rattle.std.specs.Prelude.{ℕ, Bool, true, ◌&&◌, nat_lt, List, [], ◌∷◌}
use Rattle.std.specs.Ordering.{is_lt}
use Rattle.base_types.specs.VersionIds.{id_cmp}
use Rattle.rules.specs.AttrLists.{Attr}
use Rattle.rules.specs.Versions.{key_cmp}
use Rattle.rules.specs.declared.version.Version.{Version}
use Rattle.wire.specs.Notes.{Note}

unfoldable pub rise : {X : Type 0} → (X → X → Bool) → List X → Bool
rise before [] = true
rise before (first ∷ []) = true
rise before (first ∷ second ∷ others) = before first second && rise before (second ∷ others)

abbrev pub id_before : List (ℕ × ℕ) → List (ℕ × ℕ) → Bool
id_before m n = is_lt (id_cmp m n)

abbrev pub version_before : Version → Version → Bool
version_before v w = id_before v.id w.id

abbrev pub site_before : Note → Note → Bool
site_before m n = nat_lt m.0 n.0

abbrev pub attr_before : Attr → Attr → Bool
attr_before p q = is_lt (key_cmp p q)
