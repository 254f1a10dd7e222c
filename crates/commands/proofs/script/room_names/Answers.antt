use Rattle.std.proofs.Common.{◌∙◌, sym, ap, List, ℕ}
use Rattle.std.specs.Borrow.{Bor}
use Rattle.base_types.specs.RoomNames.{is_first_name}
use Rattle.commands.proofs.NameFaults.{one_fails, name_fault}
use Rattle.commands.proofs.script.room_names.Goals as goal

pub returns-in_err-parse_first-clause-fault : goal.returns-in_err-parse_first-clause-fault
returns-in_err-parse_first-clause-fault c =
    name_fault c.from_residual-in_err-parse_first.result c.in_err-parse_first.field-0.0 c.from_residual-in_err-parse_first.ensures.1
    (λ other. one_fails is_first_name (λ (text : Bor (List ℕ)). text.now) c.args.names.now c.loop-name.name-index _ c.loop-name-test.true (sym (ap is_first_name c.as_bytes.ensures.value) ∙ c.in_err-parse_first.ensures.invalid other))
