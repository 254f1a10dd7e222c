use Rattle.std.proofs.Common.{rules, append_assoc, append-nil}
use Rattle.connection.proofs.head.page_response.Goals as goal

pub returns : goal.returns
returns c = search (rules, append_assoc, append-nil)
