use Rattle.std.proofs.Common.{refl, arith}
use Rattle.wire_reader.proofs.Tokens.{same_word, other_word, rest_none}
use Rattle.wire_reader.proofs.reply.other_of.Goals as goal

pub returns-in-objects : goal.returns-in-objects
returns-in-objects c n h =
    rw (same_word _ _ c.in-objects.is) (c.objects_of.ensures n (omega arith))

pub returns-in-entries : goal.returns-in-entries
returns-in-entries c n h =
    rw (other_word _ _ c.in-entries.not-objects, same_word _ _ c.in-entries.is) (c.entries_of.ensures n (omega arith))

pub returns-in-left : goal.returns-in-left
returns-in-left c n h =
    rw (other_word _ _ c.in-left.not-objects, other_word _ _ c.in-left.not-entries, same_word _ _ c.in-left.is) (c.left_of.ensures n)

pub returns-in-notes : goal.returns-in-notes
returns-in-notes c n h =
    rw (other_word _ _ c.in-notes.not-objects, other_word _ _ c.in-notes.not-entries, other_word _ _ c.in-notes.not-left, same_word _ _ c.in-notes.is) (c.all_notes_of.ensures n (omega arith))

pub returns-in-renewed : goal.returns-in-renewed
returns-in-renewed c n h =
    rw (other_word _ _ c.in-renewed.not-objects, other_word _ _ c.in-renewed.not-entries, other_word _ _ c.in-renewed.not-left, other_word _ _ c.in-renewed.not-notes, same_word _ _ c.in-renewed.is) (c.renewed_of.ensures n)

pub returns-in-no : goal.returns-in-no
returns-in-no c n h =
    rw (other_word _ _ c.in-no.not-objects, other_word _ _ c.in-no.not-entries, other_word _ _ c.in-no.not-left, other_word _ _ c.in-no.not-notes, other_word _ _ c.in-no.not-renewed, same_word _ _ c.in-no.is) (c.no_of.ensures n)

pub returns-in_default : goal.returns-in_default
returns-in_default c n h =
    rw (other_word _ _ c.in_default.not-objects, other_word _ _ c.in_default.not-entries, other_word _ _ c.in_default.not-left, other_word _ _ c.in_default.not-notes, other_word _ _ c.in_default.not-renewed, other_word _ _ c.in_default.not-no) (rest_none _ n _ (λ ds. refl))
