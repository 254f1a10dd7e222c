use Rattle.std.proofs.Common.{◌∙◌, ap, Err, ℕ}
use Rattle.commands.specs.Names.{texts_of}
use Rattle.commands.proofs.NameFaults.{repeat_fault}
use Rattle.commands.proofs.EmptyRooms.{nothing_served, nothing_served_if_err, empty_of, err_kept, part_served}
use Rattle.commands.proofs.script.script.Goals as goal

pub returns-in-Err-clause-fault : goal.returns-in-Err-clause-fault
returns-in-Err-clause-fault g c =
    repeat_fault {T = ℕ} (Err c.fault_of_rooms.result) c.in-Err.fault (texts_of c.args.names.now) c.deref.result.now c.fault_of_rooms.ensures c.in_ok-rooms.ensures.good
    (c.deref.ensures.value ∙ c.in_ok-rooms.ensures.ok) (λ place is. (c.in-Err.ensures.same_name place).0 (ap (λ fault. Err fault) is))

pub returns-in_err-rooms-clause-prefix : goal.returns-in_err-rooms-clause-prefix
returns-in_err-rooms-clause-prefix g c = nothing_served_if_err c.from_residual.result _ _ _

pub returns-in-Err-clause-prefix : goal.returns-in-Err-clause-prefix
returns-in-Err-clause-prefix g c = nothing_served _ _ _

pub returns-clause-prefix : goal.returns-clause-prefix
returns-clause-prefix g c =
    let given = c.deref.ensures.value ∙ c.in_ok-rooms.ensures.ok in
    let empty = empty_of c.full.result c.deref.result.now (texts_of c.args.names.now) _ c.full.ensures given c.in-Ok.ensures.empty in
    err_kept c.script.result c.map_err.result _ _ c.map_err.ensures.variant
    (part_served (g.W.Write.contents c.args.output.now) (g.W.Write.contents c.script.new.output) (texts_of c.args.names.now) c.in-Ok.world c.script.new.self
    (c.in-Ok.ensures.names ∙ given) empty (g.R.Read.remaining c.args.input.now))
    c.script.ensures.stops
