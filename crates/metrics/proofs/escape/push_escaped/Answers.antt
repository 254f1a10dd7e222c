use Rattle.metrics.proofs.Escapes.{more_escaped, more_kept}
use Rattle.metrics.proofs.escape.push_escaped.Goals as goal

pub loop-letter-preserved-in-Continue-1 : goal.loop-letter-preserved-in-Continue-1
loop-letter-preserved-in-Continue-1 c =
    more_escaped c.args.place _ _ _ _ c.loop-letter.yielded c.in-Some.letter c.loop-letter.invariant
    c.in_ok-push_str-in-Some-escape_at.ensures.bytes c.in-Some-escape_at.ensures.escape c.in-Some-escape_at.ensures.ascii

pub loop-letter-preserved : goal.loop-letter-preserved
loop-letter-preserved c =
    more_kept c.args.place _ _ _ c.loop-letter.yielded c.in-Some.letter c.loop-letter.invariant
    c.in_ok-push-in-None-escape_at.ensures.bytes c.in-None-escape_at.ensures.none
