use Rattle.std.proofs.Common.{rules}
use Rattle.server.proofs.serve.serve_in_threads.Goals as goal

pub scoped-requires : goal.scoped-requires
scoped-requires g c = record { at = λ arg. ((search rules, search rules, search rules), (search rules, search rules, search rules, search rules, search rules, search rules)) }
