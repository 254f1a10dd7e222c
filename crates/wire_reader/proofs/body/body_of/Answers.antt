use Rattle.std.proofs.Common.{refl, arith}
use Rattle.wire_reader.specs.steps.Bodies.{body_at}
use Rattle.wire_reader.proofs.Tokens.{words_steps, same_word, other_word, rest_none}
use Rattle.wire_reader.proofs.body.body_of.Goals as goal

pub returns-in-new : goal.returns-in-new
unfolding body_at
returns-in-new c n h =
    rw (words_steps, same_word _ _ c.in-new.is) (c.new_of.ensures n (omega arith))

pub returns-in-put : goal.returns-in-put
unfolding body_at
returns-in-put c n h =
    rw (words_steps, other_word _ _ c.in-put.not-new, same_word _ _ c.in-put.is) (c.put_of.ensures n (omega arith))

pub returns-in-drop : goal.returns-in-drop
unfolding body_at
returns-in-drop c n h =
    rw (words_steps, other_word _ _ c.in-drop.not-new, other_word _ _ c.in-drop.not-put, same_word _ _ c.in-drop.is) (c.drop_of.ensures n (omega arith))

pub returns-in-set : goal.returns-in-set
unfolding body_at
returns-in-set c n h =
    rw (words_steps, other_word _ _ c.in-set.not-new, other_word _ _ c.in-set.not-put, other_word _ _ c.in-set.not-drop, same_word _ _ c.in-set.is) (c.set_of.ensures n (omega arith))

pub returns-in_default : goal.returns-in_default
unfolding body_at
returns-in_default c n h =
    rw (words_steps, other_word _ _ c.in_default.not-new, other_word _ _ c.in_default.not-put, other_word _ _ c.in_default.not-drop, other_word _ _ c.in_default.not-set) (rest_none _ n _ (λ ds. refl))
