-- JSON values that are forms of values in range.
use Rattle.serde_json.specs.Data.{Data}
use Rattle.std.specs.Prelude.{List, ℕ}
use Rattle.serde_json.specs.Written.{compact_text}
use Rattle.wire.specs.declared.request.Request.{Request}
use Rattle.rules.specs.declared.history.Entry.{Entry}
use Rattle.wire.specs.declared.reply.Reply.{Reply}
use Rattle.wire.specs.Form.{body_form, request_form_by, IsRequest, IsRequestForm, IsEntryForm}
use Rattle.wire.specs.Form.{IsEntry, IsReplyForm, IsReply, entry_form}

-- the form in which a request is written
abbrev pub request_form : Request → Data
request_form = request_form_by body_form

-- the JSON value is a form of x, which is in range
pub record HasForm {X : Type 0} (IsForm : Data → X → Type 0) (Fits : X
    → Type 0) (d : Data) (x : X) : Type 0 where
  pub form : IsForm d x
  pub in_range : Fits x

-- the JSON value is one of the request
abbrev pub IsRequestValue : Data → Request → Type 0
IsRequestValue = HasForm IsRequestForm IsRequest

-- the JSON value is one of the entry
abbrev pub IsEntryValue : Data → Entry → Type 0
IsEntryValue = HasForm IsEntryForm IsEntry

-- the JSON value is one of the reply
abbrev pub IsReplyValue : Data → Reply → Type 0
IsReplyValue = HasForm IsReplyForm IsReply

-- the text of an entry
abbrev pub entry_text : Entry → List ℕ
entry_text entry = compact_text (entry_form entry)
