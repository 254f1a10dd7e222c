use Rattle.std.proofs.Common.{◌++◌, ap, sym, ◌∙◌, subst}
use Rattle.shared_history.specs.steps.Fronts.{FrontView}
use Rattle.openings.specs.Openings.{Opened, OpeningView}
use Rattle.room_lock.specs.Passes.{PrefixView}
use Rattle.room_lock.specs.Shelves.{Shelf, IsShelfOf}
use Rattle.room_lock.specs.steps.Shelves.{full_shelf}
use Rattle.notes.specs.Notes.{NotePlaces}
use Rattle.room_lock.specs.Shelves.{AreOfSitesIn}
use Rattle.room_lock.proofs.NotesOfSites.{noted_none}
use Rattle.room_lock.proofs.Shelves.{full_is_shelf}
use Rattle.room_lock.proofs.room.Room.open.Goals as goal

pub invariant_of-result : goal.invariant_of-result
invariant_of-result g c =
    let opening = c.in-Some.opening in
    let r = c.args.new.state.room.entries in
    let P : Shelf → Type 0 = IsShelfOf opening r in
    let entered = ap (λ (o : OpeningView). o.room.history) c.in-Some.ensures.opening ∙ ap (λ (e : Opened). e.history) c.new-entered.ensures in
    let history = c.add_all.ensures.history ∙ c.open-history.ensures.history ∙ sym entered in
    let entries = c.add_all.ensures.entries ∙ (λ j. c.open-history.ensures.entries j ++ c.entries.ensures.entries j) in
    let whole = c.of_front-whole.ensures ∙ (λ j. record { opening = opening; entries = ((ap (λ (f : FrontView). f.entries) c.front-2.ensures) ∙ entries) j }) in
    let shelf = c.in_ok-shelf.ensures ∙ ap (λ (w : PrefixView). full_shelf w.opening w.entries) whole in (
      record {
        written = (history, entries);
        limits_are = c.requires.limits;
        shelved = subst P (sym shelf) (full_is_shelf opening r);
      },
      subst (λ (notes : NotePlaces). AreOfSitesIn c.in_ok-shelf.shelf.items notes) (sym c.none.ensures) (noted_none c.in_ok-shelf.shelf.items),
    )
