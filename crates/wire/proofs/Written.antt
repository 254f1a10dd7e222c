-- The form in which a reply is written is one of its forms.
use Rattle.std.proofs.Common.{inl, List, [], ◌∷◌, map, refl}
use Rattle.rules.specs.declared.history.Entry.{Entry}
use Rattle.wire.specs.declared.reply.Reply.{Reply}
use Rattle.wire.specs.declared.reply.Reply.TheVariants.{Joined, Returned, Made, Taken, Versions, Objects, Entries, Left, Notes, Renewed, No}
use Rattle.wire.specs.Form.{list_form, entry_form, AreForms, IsEntryForm, IsReplyForm, reply_form}

each_written : (es : List Entry) → AreForms IsEntryForm (map entry_form es) es
each_written [] = tt
each_written (e ∷ es) = (inl refl, each_written es)

pub written_reply : (r : Reply) → IsReplyForm (reply_form r) r
written_reply (Joined at site) = refl
written_reply (Returned at site seq) = refl
written_reply (Made at name) = refl
written_reply (Taken at ids) = refl
written_reply (Versions at name kind versions) = refl
written_reply (Objects at from total objects) = refl
written_reply (Entries at from entries) = (list_form (map entry_form entries), (map entry_form entries, each_written entries, refl), refl)
written_reply (Left at) = refl
written_reply (Notes at notes) = refl
written_reply (Renewed at room) = refl
written_reply (No at refusal) = refl
