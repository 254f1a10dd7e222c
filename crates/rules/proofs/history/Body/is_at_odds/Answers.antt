use Rattle.std.proofs.Common.{sym, ap, ◌∙◌}
use Rattle.rules.specs.Bodies.{are_at_odds}
use Rattle.rules.proofs.Bodies.{at_odds_with_new}
use Rattle.rules.proofs.history.Body.is_at_odds.Goals as goal

pub returns-in_default-New : goal.returns-in_default-New
returns-in_default-New c = sym (ap (are_at_odds c.args.self.now) c.in_default-New.is-1 ∙ at_odds_with_new c.args.self.now c.in_default-New.kind-1 c.in_default-New.attrs-1)
