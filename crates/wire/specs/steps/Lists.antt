-- Replies with lists.
use Rattle.std.specs.Prelude.{Bool, true, false}
use Rattle.wire.specs.declared.reply.Reply.{Reply}
use Rattle.wire.specs.declared.reply.Reply.TheVariants.{Versions, Objects, Entries, Notes}

-- the reply is a list of what a room has
abbrev pub is_list : Reply → Bool
is_list (Versions at name kind versions) = true
is_list (Objects at from total objects) = true
is_list (Entries at from entries) = true
is_list (Notes at notes) = true
is_list _ = false
