-- The reader of lines is exact, and the texts of lines.
use Rattle.std.proofs.Common.{◌≡◌, ℕ, List, [], ◌∷◌, true, Some, refl, ap, subst, ◌∙◌}
use Rattle.std.specs.Prelude.{◌↔◌}
use Rattle.std.proofs.lemmas.Option.{cond_some}
use Rattle.serde_json.specs.Data.{Data}
use Rattle.base_types.specs.declared.op_name.TheConstants.{MAX_SITE}
use Rattle.wire.specs.declared.request.Request.{Request}
use Rattle.wire.specs.declared.reply.Reply.{Reply}
use Rattle.wire.specs.Form.{list_form, whole_form}
use Rattle.wire_reader.specs.steps.Reading.{items_in, whole_in, field_at, end_at}
use Rattle.wire_reader.specs.steps.Requests.{request_of}
use Rattle.wire_reader.specs.steps.Replies.{reply_of}
use Rattle.wire_reader.proofs.Exact.{ReadsForms, bind_some, items_take, items_again, exact_end, field_some}
use Rattle.wire_reader.proofs.PartForms.{exact_site}
use Rattle.wire_reader.proofs.Requests.{reads_requests}
use Rattle.wire_reader.proofs.Replies.{reads_replies}
use Rattle.wire_reader.proofs.ByForm.{texts_by_form, one_value}
use Rattle.transcript.specs.declared.line.TranscriptLine.{TranscriptLine}
use Rattle.transcript.specs.Lines.{go_together, IsLineForm, IsLine, IsLineText}
use Rattle.transcript.specs.steps.Reads.{line_with, line_at, line_of, line_read}

with_takes : (site : ℕ) (request : Request) (reply : Reply) (line : TranscriptLine) → line_with site request reply ≡ Some line → (go_together site request reply ≡ true) × (record { site = site; request = request; reply = reply } ≡ line)
with_takes site request reply line e = cond_some (go_together site request reply) (record { site = site; request = request; reply = reply }) line e

line_takes : (d : Data) (line : TranscriptLine) → line_of d ≡ Some line → IsLine line × IsLineForm d line
unfolding line_of line_at
line_takes d line e =
    let a = bind_some (items_in d) line_at line e in
    let b = bind_some (field_at (whole_in 1 MAX_SITE) (field_at request_of (field_at reply_of end_at)) a.0) (λ p. line_with p.0 p.1.0 p.1.1.0) line a.2 in
    let p = field_some (whole_in 1 MAX_SITE) _ a.0 b.0 b.1 in
    let q = field_some request_of _ p.1 b.0.1 p.4 in
    let r = field_some reply_of end_at q.1 b.0.1.1 q.4 in
    let site = exact_site.takes p.0 b.0.0 p.3 in
    let request = reads_requests.takes q.0 b.0.1.0 q.3 in
    let reply = reads_replies.takes r.0 b.0.1.1.0 r.3 in
    let end = exact_end.takes r.1 b.0.1.1.1 r.4 in
    let others = q.2 ∙ ap (λ es. q.0 ∷ es) (r.2 ∙ ap (λ es. r.0 ∷ es) end.1) in
    let fields = p.2 ∙ ap (λ f. f ∷ p.1) site.1 ∙ ap (λ es. whole_form b.0.0 ∷ es) others in
    let f = with_takes b.0.0 b.0.1.0 b.0.1.1.0 line b.2 in
    subst (λ (l : TranscriptLine). IsLine l × IsLineForm d l) f.1 (
      record { site = site.0; request = request.0; reply = reply.0; together = f.0 },
      record { request = q.0; reply = r.0; form = items_take d a.0 a.1 ∙ ap list_form fields; asks = request.1; answers = reply.1 },
    )

line_again : (d : Data) (line : TranscriptLine) → IsLineForm d line → IsLine line → line_of d ≡ Some line
unfolding line_of line_at
line_again d line form h =
    rw (
      form.form,
      items_again (whole_form line.site ∷ form.request ∷ form.reply ∷ []),
      exact_site.again line.site h.site,
      reads_requests.again form.request line.request form.asks h.request,
      reads_replies.again form.reply line.reply form.answers h.reply,
      h.together,
    ) refl

pub reads_lines : ReadsForms TranscriptLine line_of IsLineForm IsLine
reads_lines = record { takes = line_takes; again = line_again }

pub lines_by_form : (bytes : List ℕ) (line : TranscriptLine) → (line_read bytes ≡ Some line) ↔ IsLineText bytes line
unfolding line_read
lines_by_form bytes line = texts_by_form reads_lines bytes line

-- bytes are a text of one line at most
pub one_line : (bytes : List ℕ) (p q : TranscriptLine) → IsLineText bytes p → IsLineText bytes q → p ≡ q
one_line = one_value reads_lines

-- what is read is in range
pub line_fits : (bytes : List ℕ) (line : TranscriptLine) → line_read bytes ≡ Some line → IsLine line
line_fits bytes line e = ((lines_by_form bytes line).0 e).in_range
