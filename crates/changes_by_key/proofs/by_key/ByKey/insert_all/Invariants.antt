use Rattle.std.proofs.Common.{◌≡◌, true, map}
use Rattle.std.specs.Prelude.{bytes_eq}
use Rattle.std.specs.List.{list_any}
use Rattle.base_types.specs.Texts.{Bytes}
use Rattle.changes_by_key.specs.steps.Indexes.{AreByKey}
use Rattle.changes_by_key.proofs.Keyed.{IsLeftOrUnder}
use Rattle.changes_by_key.proofs.by_key.ByKey.insert_all.Given as goal

abbrev pub invariant-loop-at : goal.invariant-loop-at
invariant-loop-at l = record {
  are : AreByKey l.ops l.self;
  len : l.self.len ≡ l.fn.self.len;
  keys : (key : Bytes) → list_any (bytes_eq key) (map (λ pair. pair.0) l.pairs) ≡ true → IsLeftOrUnder l.pairs l.self.keys l.self.len l.at key;
}
