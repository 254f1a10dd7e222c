-- Frames that are delivered one after the other.
use Rattle.std.proofs.Common.{◌∙◌, ℕ, List, [], ◌∷◌, ◌++◌, refl, sym, ap, append_assoc, append-nil}
use Rattle.std.specs.List.{flat_map}
use Rattle.std.proofs.lemmas.List.Elements.{All-append, All-nil, All-cons}
use Rattle.std.proofs.lemmas.List.Concat.{flat_map-append}
use Rattle.connection.specs.Standing.{QueuedFrame, Standing}
use Rattle.connection.specs.Releasing.{Released}
use Rattle.loops.specs.steps.Delivering.{Delivers, HasReceipt}

module _ {S D R : Type 0} (shows : R → D → Type 0) where
  -- nothing was moved
  pub none_delivered : (standing : Standing S D) (output : List ℕ) → Delivers shows standing standing output output
  none_delivered standing output = record { moved = []; taken = refl; sent = sym (append-nil output); shown = All-nil (HasReceipt shows) }

  -- one frame more
  pub one_more : (before mid after : Standing S D) (output output' output'' : List ℕ) → Delivers shows before mid output output' → Released shows mid after output' output'' → Delivers shows before after output output''
  one_more before mid after output output' output'' d r =
      let item : QueuedFrame D = r.0 in
      record {
        moved = d.moved ++ item ∷ [];
        taken = d.taken ∙ (ap (λ (m : Standing S D). record m { waiting = d.moved ++ m.waiting }) r.1 ∙ ap (λ (w : List (QueuedFrame D)). record after { waiting = w }) (sym (append_assoc d.moved (item ∷ []) after.waiting)));
        sent = r.2 ∙ (ap (λ o. o ++ item.bytes) d.sent ∙ (append_assoc output (flat_map (λ (i : QueuedFrame D). i.bytes) d.moved) item.bytes ∙ ap (λ o. output ++ o) (sym (flat_map-append (λ (i : QueuedFrame D). i.bytes) d.moved (item ∷ []) ∙ ap (λ o. flat_map (λ (i : QueuedFrame D). i.bytes) d.moved ++ o) (append-nil item.bytes)))));
        shown = All-append (HasReceipt shows) d.moved (item ∷ []) d.shown (All-cons (HasReceipt shows) item [] r.3 (All-nil (HasReceipt shows)));
      }
