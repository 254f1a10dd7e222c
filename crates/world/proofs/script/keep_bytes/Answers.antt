use Rattle.std.proofs.Common.{◌∙◌, arith}
use Rattle.world.proofs.Parts.{kept_bytes}
use Rattle.world.proofs.script.keep_bytes.Goals as goal

pub returns : goal.returns
returns c =
    let line = c.args.line.now in
    record { ok = c.in_ok-extend_from_slice.ensures.items ∙ kept_bytes line.items c.args.bytes.now c.len-room.result c.min.result (c.len-room.ensures ∙ line.ok.0) (omega arith) c.min.ensures }
