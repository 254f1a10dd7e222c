use Rattle.std.proofs.Common.{◌/◌, ◌∙◌, ap, ℕ}
use Rattle.smallvec.specs.SmallVec.{SmallVec}
use Rattle.places.proofs.Counted.{front_is, first_whole, first_more, first_places_in}
use Rattle.places.proofs.words.few_first_places.Goals as goal
use Rattle.places.proofs.words.few_first_places.Goals.{then-not-is_multiple_of+in_ok-push, else-not-is_multiple_of}

pub returns-clause-first : goal.returns-clause-first
returns-clause-first c =
    let n = c.args.len in
    let front = front_is (n / 64) c.new-words.result.items c.resize.new.self.items c.new-words.ensures.items c.in_ok-resize.ensures.ok c.in_ok-resize.ensures.len in
    elim c.if-not-is_multiple_of.branch [
      | then-not-is_multiple_of+in_ok-push b ↦ first_places_in n c.if-not-is_multiple_of.words.items (first_more n c.resize.new.self.items c.if-not-is_multiple_of.words.items front (ap (λ (v : SmallVec ℕ). v.items) b.words-is ∙ b.in_ok-push.ensures.ok))
      | else-not-is_multiple_of b ↦ first_places_in n c.if-not-is_multiple_of.words.items (first_whole n c.if-not-is_multiple_of.words.items (c.is_multiple_of.ensures.0 b.if-not-is_multiple_of.false) (ap (λ (v : SmallVec ℕ). v.items) b.words-is ∙ front))
    ]
