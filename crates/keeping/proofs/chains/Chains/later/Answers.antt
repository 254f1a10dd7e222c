use Rattle.keeping.proofs.chains.Chains.later.Goals as goal
