-- One more item of a list that is gone over.
use Rattle.std.proofs.Common.{◌≡◌, ℕ, ◌+◌, ◌<◌, List, [], ◌∷◌, ◌++◌, length, get_or, take, sym, ap, ◌∙◌}
use Rattle.std.specs.Prelude.{Option, filter_map}
use Rattle.std.proofs.lemmas.List.{take_more}
use Rattle.std.proofs.lemmas.List.Elements.{filter_map-append}
use Rattle.rules.specs.declared.version.Version.{Version}
use Rattle.renewal.specs.Drawn.{live_versions, attrs_shown}

pub filter_map_more : {X Y : Type 0} (h : X → Option Y) (xs : List X) (i : ℕ) (x : X) → i < length xs → x ≡ get_or xs i x → filter_map h (take (i + 1) xs) ≡ filter_map h (take i xs) ++ filter_map h (x ∷ [])
filter_map_more h xs i x l is =
    ap (filter_map h) (take_more xs i x l)
    ∙ filter_map-append h (take i xs) (get_or xs i x ∷ [])
    ∙ ap (λ y. filter_map h (take i xs) ++ filter_map h (y ∷ [])) (sym is)

pub live_more : (xs : List Version) (i : ℕ) (x : Version) → i < length xs → x ≡ get_or xs i x → live_versions (take (i + 1) xs) ≡ live_versions (take i xs) ++ live_versions (x ∷ [])
live_more xs i x l is = filter_map_more (λ version. attrs_shown version.shown) xs i x l is
