use Rattle.std.proofs.Common.{[], Some, string_bytes}
use Rattle.websocket.specs.Connection.{Sends}
use Rattle.connection.specs.Serving.{sent_text}
use Rattle.connection.proofs.Frames.{queued}
use Rattle.connection.proofs.dialogue.Dialogue.send.Goals as goal

pub returns-clause-ok : goal.returns-clause-ok
returns-clause-ok g c =
    queued c.push_text.result (λ frame. Sends c.args.context.now.role (Some (sent_text (string_bytes c.args.answer.text))) [] frame) c.args.answer.reported _ _ _
    c.self.view_is (rw c.deref.ensures at c.push_text.ensures.ok)
