use Rattle.std.proofs.Common.{◌≡◌, ◌++◌, map}
use Rattle.room_folder.specs.steps.Chains.{newest_name}
use Rattle.room_folder.proofs.folder.Folder.settle_chains.Given as goal

abbrev pub invariant-loop-chain : goal.invariant-loop-chain
invariant-loop-chain g l =
    (goal.iterator-loop-chain g).can_next l.chain-iterator × (goal.iterator-loop-chain g).is_finite l.chain-iterator
    × (l.yielded ++ l.chain-iterator.rest.items ≡ l.fn.chains.items)
    × (map (λ room. room.name) l.rooms.items ≡ map (λ chain. newest_name chain.newest) l.yielded)
