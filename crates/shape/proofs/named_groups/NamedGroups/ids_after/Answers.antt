use Rattle.shape.proofs.named_groups.NamedGroups.ids_after.Goals as goal

pub push_ids_after-requires-clause-before : goal.push_ids_after-requires-clause-before
push_ids_after-requires-clause-before c = (c.args.before.now.ops, c.requires.before, c.requires.after, c.requires.newly)
