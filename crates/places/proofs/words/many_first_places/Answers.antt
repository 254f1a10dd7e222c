use Rattle.std.proofs.Common.{◌/◌, ◌∙◌, ap, ℕ, Global, Vec, vec_len}
use Rattle.places.proofs.Counted.{filled_is, first_whole, first_more, first_places_in}
use Rattle.places.proofs.words.many_first_places.Goals as goal
use Rattle.places.proofs.words.many_first_places.Goals.{then-not-is_multiple_of+in_ok-push, else-not-is_multiple_of}

pub returns-clause-first : goal.returns-clause-first
returns-clause-first c =
    let n = c.args.len in
    let front = filled_is (n / 64) (vec_len c.in_ok-words.words) c.in_ok-words.words.items c.resize.new.self.items c.in_ok-words.ensures.items c.in_ok-words.ensures.len c.in_ok-resize.ensures.items in
    elim c.if-not-is_multiple_of.branch [
      | then-not-is_multiple_of+in_ok-push b ↦ first_places_in n c.from_vec.result.items (first_more n c.resize.new.self.items c.from_vec.result.items front (c.from_vec.ensures.items ∙ ap (λ (v : Vec ℕ Global). v.items) b.words-is ∙ b.in_ok-push.ensures.items))
      | else-not-is_multiple_of b ↦ first_places_in n c.from_vec.result.items (first_whole n c.from_vec.result.items (c.is_multiple_of.ensures.0 b.if-not-is_multiple_of.false) (c.from_vec.ensures.items ∙ ap (λ (v : Vec ℕ Global). v.items) b.words-is ∙ front))
    ]
