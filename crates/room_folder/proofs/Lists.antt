-- Lists that each get one element more.
use Rattle.std.proofs.Common.{◌≡◌, List, [], ◌∷◌, ◌++◌, All, map, refl, sym, ap, subst, ◌∙◌}
use Rattle.std.proofs.lemmas.List.{map-append}
use Rattle.std.proofs.lemmas.List.Elements.{All-push}
use mathlib.Core.List.{IsPrefix}
use Rattle.base_types.proofs.Lists.{map_of_map}
use Rattle.base_types.specs.Texts.{Bytes}
use Rattle.rules.specs.Limits.{full_limits}
use Rattle.room_core.specs.State.{DrawingState}
use Rattle.restore.specs.steps.Files.{FileView}
use Rattle.base_types.specs.RoomNames.{first_name}
use Rattle.room_folder.specs.declared.open_rooms.ReadChain.{ReadChain}
use Rattle.room_folder.specs.declared.settling.SettledRoom.{SettledRoom}
use Rattle.room_folder.specs.steps.Chains.{newest_name}

pub map_more : {A B C : Type 0} (f : A → C) (g : B → C) (xs xs' : List A) (ys ys' : List B) (x : A) (y : B)
    → xs' ≡ xs ++ x ∷ [] → ys' ≡ ys ++ y ∷ [] → map f xs ≡ map g ys → f x ≡ g y → map f xs' ≡ map g ys'
map_more f g xs xs' ys ys' x y more more' same here =
    ap (map f) more ∙ map-append f xs (x ∷ []) ∙ (λ j. same j ++ here j ∷ []) ∙ sym (ap (map g) more' ∙ map-append g ys (y ∷ []))

prefix-map : {A B : Type 0} (f : A → B) (xs ys : List A) → IsPrefix xs ys → IsPrefix (map f xs) (map f ys)
prefix-map f xs ys begins = (map f begins.0, sym (map-append f xs begins.0) ∙ ap (map f) begins.1)

-- these are the lists of the rooms
pub record AreListsOf (rooms : List SettledRoom) (names : List Bytes) (states : List DrawingState) (files : List FileView) : Type 0 where
  pub names_are : names ≡ map (λ room. room.name) rooms
  pub of_files : map (λ file. file.name) files ≡ names
  pub records : map (λ state. state.room.entries) states ≡ map (λ file. file.entries) files
  pub limits : All (λ state. state.room.limits ≡ full_limits) states

pub lists_push : (rooms : List SettledRoom) (names names' : List Bytes) (states states' : List DrawingState) (files files' : List FileView) (room : SettledRoom)
    → AreListsOf rooms names states files
    → names' ≡ names ++ room.name ∷ [] → states' ≡ states ++ room.state ∷ [] → files' ≡ files ++ room.file ∷ []
    → AreListsOf (rooms ++ room ∷ []) names' states' files'
lists_push rooms names names' states states' files files' room h named stated filed =
    let IsFull : DrawingState → Type 0 = λ state. state.room.limits ≡ full_limits in
    record {
      names_are = named ∙ ap (λ l. l ++ room.name ∷ []) h.names_are ∙ sym (map-append (λ (r : SettledRoom). r.name) rooms (room ∷ []));
      of_files =
          ap (map (λ (file : FileView). file.name)) filed ∙ map-append (λ (file : FileView). file.name) files (room.file ∷ [])
          ∙ (λ j. h.of_files j ++ ap (λ (file : FileView). file.name) room.record_of_file j ∷ []) ∙ sym named;
      records = map_more _ _ states states' files files' room.state room.file stated filed h.records (sym (ap (λ (file : FileView). file.entries) room.record_of_file));
      limits = subst (All IsFull) (sym stated) (All-push IsFull states room.state h.limits room.limits);
    }

-- the first rooms of the lists are of the chains of these names
pub chains_begin : (names : List Bytes) (chains : List ReadChain) (rooms : List SettledRoom) (listed : List Bytes)
    → map (λ chain. first_name (newest_name chain.newest)) chains ≡ map first_name names
    → IsPrefix (map (λ chain. newest_name chain.newest) chains) (map (λ room. room.name) rooms)
    → listed ≡ map (λ room. room.name) rooms
    → IsPrefix (map first_name names) (map first_name listed)
chains_begin names chains rooms listed read settled lists =
    let newest = λ (chain : ReadChain). newest_name chain.newest in
    subst (λ l. IsPrefix l (map first_name listed)) (map_of_map first_name newest chains ∙ read)
    (subst (λ l. IsPrefix (map first_name (map newest chains)) (map first_name l)) (sym lists) (prefix-map first_name _ _ settled))
