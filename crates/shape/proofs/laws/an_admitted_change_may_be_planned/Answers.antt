use Rattle.std.proofs.Common.{◌∷◌, ◌++◌, [], subst}
use Rattle.places.specs.steps.Changes.{AreChangesOf}
use Rattle.shape.proofs.Next.{next_change}
use Rattle.shape.proofs.laws.an_admitted_change_may_be_planned.Goals as goal

pub returns : goal.returns
returns c = λ h d op i o w e v s.
    subst (λ k. AreChangesOf d.creation.name (k ++ op ∷ [])) w.all (next_change h op i o e v d.creation.name s)
