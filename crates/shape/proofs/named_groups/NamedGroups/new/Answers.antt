use Rattle.std.proofs.Common.{◌∙◌, ap, ◌∷◌, ◌++◌, []}
use Rattle.shape.proofs.Fresh.{named_at_first}
use Rattle.shape.proofs.named_groups.NamedGroups.new.Goals as goal

pub returns : goal.returns
returns c =
    named_at_first c.in_ok-groups.groups c.push.new.self.items c.in_ok-groups.ensures.empty c.in_ok-groups.ensures.groups
    (c.in_ok-push.ensures.ok ∙ ap (λ l. l ++ c.default.result ∷ []) c.new-ids.ensures.items ∙ ap (λ id. id ∷ []) c.default.ensures)
