use Rattle.std.proofs.Common.{◌≡◌, ◌∙◌, ◌||◌, ap, sym, subst, length, List, ℕ}
use Rattle.std.specs.List.{list_any}
use Rattle.places.specs.steps.PlaceSet.{has}
use Rattle.changes_by_key.specs.steps.Indexes.{KeyIndex, of_key}
use Rattle.places.specs.steps.PlaceSet.{AreBelow}
use Rattle.changes_by_key.proofs.Keyed.{drops_there, drops_within}
use Rattle.changes_by_key.proofs.by_key.ByKey.drops_and_puts.Goals as goal

pub loop-at-init : goal.loop-at-init
loop-at-init c =
    let index = c.args.self.now in
    let found : c.in_ok-found.found ≡ index.drops = c.in_ok-found.ensures ∙ ap (λ (s : KeyIndex). s.drops) c.self.view_is in (
      λ ops place w below.
          ap (λ b. b || list_any (λ pair. of_key ops pair.0 place) c.args.pairs.now)
          (ap (λ (ps : List ℕ). has ps place) found ∙ drops_there ops index w place below),
      λ ops w. subst (AreBelow (length ops)) (sym found) (drops_within ops index w),
    )
