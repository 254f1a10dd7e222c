use Rattle.std.proofs.Common.{◌≡◌, ◌++◌, string_bytes, take}
use Rattle.std.specs.List.Sorted.{IsPermutation}
use Rattle.serde_json.specs.Written.{compact_text}
use Rattle.wire.specs.Form.{names_form}
use Rattle.wire.proofs.shared_id.put_names.Given as goal

abbrev pub invariant-loop-name : goal.invariant-loop-name
invariant-loop-name l = record {
  names : IsPermutation (take l.name-index l.added ++ l.fn.names.items) l.names.items;
  text : string_bytes l.text ≡ compact_text (names_form l.names.items);
}
