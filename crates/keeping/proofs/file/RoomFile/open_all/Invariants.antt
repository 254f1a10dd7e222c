use Rattle.std.proofs.Common.{◌≡◌, ◌+◌, ◌++◌, length, map, take, vec_len}
use Rattle.keeping.proofs.file.RoomFile.open_all.Given as goal

abbrev pub invariant-loop-file : goal.invariant-loop-file
invariant-loop-file g l =
    (goal.iterator-loop-file g).can_next l.file-iterator × (goal.iterator-loop-file g).is_finite l.file-iterator
    × (l.yielded ++ l.file-iterator.rest.items ≡ l.fn.files.items)
    × (vec_len l.opened ≡ length l.yielded)
    × (length l.yielded + l.file-iterator.rest.len ≡ vec_len l.fn.files)
    × (map (λ file. file.kept) l.opened.items ≡ take (length l.yielded) l.begun)
