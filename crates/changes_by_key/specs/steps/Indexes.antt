-- The index of the first changes on an object: the puts by the keys that they give values, and the
-- drops.
use Rattle.std.specs.Prelude.{◌≡◌, ℕ, ◌+◌, ◌<◌, ◌≤◌, set, Bool, true, ◌||◌, List, [], ◌∷◌, ◌++◌}
use Rattle.std.specs.Prelude.{filter, length, slice_index_or, bytes_eq}
use Rattle.std.specs.List.{list_any}
use Rattle.base_types.specs.Texts.{Bytes}
use Rattle.rules.specs.declared.history.Op.{Op}
use Rattle.rules.specs.declared.history.Body.{Body}
use Rattle.rules.specs.AttrLists.{Attr}
use Rattle.rules.specs.Bodies.{is_drop_body, keys_of_body}
use Rattle.places.specs.steps.PlaceSet.{has, with_place, places}
use Rattle.places.specs.steps.Changes.{at}

-- the places of the puts that give a key a value
pub record OfKey : Type 0 where
  pub key : Bytes
  pub places : List ℕ

-- the first changes, as many as len: the puts by key, and the drops
pub record KeyIndex : Type 0 where
  pub len : ℕ
  pub keys : List OfKey
  pub drops : List ℕ

abbrev pub key_at : List OfKey → ℕ → OfKey
key_at keys i = slice_index_or keys i (record { key = []; places = [] })

-- does the change give the key a value?
abbrev pub body_gives : Bytes → Body → Bool
body_gives key body = list_any (bytes_eq key) (keys_of_body body)

abbrev pub of_key : List Op → Bytes → ℕ → Bool
of_key k key place = body_gives key (at k place).body

-- is the change at a place a drop?
abbrev pub is_drop_at : List Op → ℕ → Bool
is_drop_at k place = is_drop_body (at k place).body

-- with the next change under the key that stands at i
abbrev pub with_key_at : ℕ → KeyIndex → KeyIndex
with_key_at i index =
    let of = key_at index.keys i in
    record {
      len = index.len;
      keys =
          set index.keys i (record { key = of.key; places = with_place index.len of.places });
      drops =
          index.drops;
    }

-- with the next change, the first under a key
abbrev pub with_new_key : Bytes → KeyIndex → KeyIndex
with_new_key key index =
    record {
      len = index.len;
      keys = index.keys ++ record { key = key; places = index.len ∷ [] } ∷ [];
      drops = index.drops;
    }

-- with the next change, a drop
abbrev pub with_drop : KeyIndex → KeyIndex
with_drop index =
    record { len = index.len + 1; keys = index.keys; drops = with_place index.len index.drops }

-- a place stands under a key
pub record IsUnder (keys : List OfKey) (key : Bytes) (place : ℕ) : Type 0 where
  pub entry : ℕ
  pub within : entry < length keys
  pub of_it : (key_at keys entry).key ≡ key
  pub placed : has (key_at keys entry).places place ≡ true

-- Under each key stand all of the first changes that give it. Whatever stands there gives it: where
-- memory was refused, the next change stands under some of its keys. Each key stands once, with
-- some place.
pub record AreByKey (k : List Op) (index : KeyIndex) : Type 0 where
  pub within : index.len ≤ length k
  pub all : (key : Bytes) (place : ℕ) → place < index.len → of_key k key place ≡ true
      → IsUnder index.keys key place
  pub only : (key : Bytes) (place : ℕ) → IsUnder index.keys key place
      → (place < length k) × (of_key k key place ≡ true)
  pub some : (i : ℕ) → i < length index.keys
      → (place : ℕ) × (has (key_at index.keys i).places place ≡ true)
  pub apart : (i j : ℕ) → i < length index.keys → j < length index.keys
      → (key_at index.keys i).key ≡ (key_at index.keys j).key → i ≡ j
  pub drops : index.drops ≡ filter (is_drop_at k) (places index.len)

-- is the change at a place a drop, or does it give a key of these pairs a value?
abbrev pub is_drop_or_gives : List Op → List Attr → ℕ → Bool
is_drop_or_gives k pairs place =
    is_drop_at k place || list_any (λ pair. of_key k pair.0 place) pairs
