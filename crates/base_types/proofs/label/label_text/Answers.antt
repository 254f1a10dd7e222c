use Rattle.std.proofs.Common.{sym, ◌∙◌}
use Rattle.base_types.proofs.Labels.{label-IsUtf8}
use Rattle.base_types.proofs.label.label_text.Goals as goal

pub unreachable-requires : goal.unreachable-requires
unreachable-requires c = c.in_default-from_utf8.ensures.cases.0 (label-IsUtf8 _ _ (sym c.label_fault.ensures ∙ c.in_default.is))
