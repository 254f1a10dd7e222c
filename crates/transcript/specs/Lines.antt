-- A line of a transcript, and its JSON form.
use Rattle.std.specs.Prelude.{◌≡◌, ℕ, ◌+◌, Bool, true, false, not, ◌&&◌, ◌==◌, List, [], ◌∷◌}
use Rattle.std.specs.Prelude.{if◌then◌else◌}
use Rattle.serde_json.specs.Data.{Data}
use Rattle.base_types.specs.Names.{is_site}
use Rattle.rules.specs.Refusals.{is_by_session, is_of_back}
use Rattle.wire.specs.declared.request.Request.{Request}
use Rattle.wire.specs.declared.request.Request.TheVariants.{Join, Back}
use Rattle.wire.specs.declared.reply.Reply.{Reply}
use Rattle.wire.specs.declared.reply.Reply.TheVariants.{Joined, Returned, No}
use Rattle.wire.specs.Form.{list_form, whole_form, IsRequest, IsRequestForm, IsReply, IsReplyForm}
use Rattle.wire.specs.Form.{IsTextOf}
use Rattle.wire.specs.Replies.{adds, at_of}
use Rattle.transcript.specs.declared.line.TranscriptLine.{TranscriptLine}

abbrev pub is_join_request : Request → Bool
is_join_request (Join room) = true
is_join_request _ = false

abbrev pub is_joined : Reply → Bool
is_joined (Joined at site) = true
is_joined _ = false

abbrev pub is_returned : Reply → Bool
is_returned (Returned at site seq) = true
is_returned _ = false

-- a room may give this reply to a site that is in it
abbrev pub is_answer : Reply → Bool
is_answer (Returned at site seq) = false
is_answer (No at refusal) = not (is_by_session refusal) && not (is_of_back refusal)
is_answer _ = true

-- this site's request and this reply may stand in one line
abbrev pub go_together : ℕ → Request → Reply → Bool
go_together site (Join room) reply = is_joined reply
go_together site (Back room asked) reply = asked == site && is_returned reply
go_together site _ reply = is_answer reply

-- the number of entries after the call
abbrev pub entries_after : Reply → ℕ
entries_after reply = if adds reply then at_of reply + 1 else at_of reply

-- [SITE,REQUEST,REPLY], with any form of the request and of the reply
pub record IsLineForm (d : Data) (line : TranscriptLine) : Type 0 where
  pub request : Data
  pub reply : Data
  pub form : d ≡ list_form (whole_form line.site ∷ request ∷ reply ∷ [])
  pub asks : IsRequestForm request line.request
  pub answers : IsReplyForm reply line.reply

-- a line in range, whose request and reply may stand together
pub record IsLine (line : TranscriptLine) : Type 0 where
  pub site : is_site line.site ≡ true
  pub request : IsRequest line.request
  pub reply : IsReply line.reply
  pub together : go_together line.site line.request line.reply ≡ true

abbrev pub IsLineText : List ℕ → TranscriptLine → Type 0
IsLineText = IsTextOf IsLineForm IsLine
