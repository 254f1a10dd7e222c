use Rattle.std.proofs.Common.{sym, ◌∙◌}
use Rattle.wire_reader.proofs.Scanned.{quoted_front}
use Rattle.wire_reader.proofs.compact.Cursor.quoted.Goals as goal

pub returns : goal.returns
returns c =
    quoted_front c.args.self.now c.expect.new.self c.split_plain.result.1.now c.expect-2.new.self c.split_plain.result.0.now
    c.in_ok-expect.ensures (sym c.self.view_is ∙ c.split_plain.ensures.parts) c.in_ok-expect-2.ensures c.split_plain.ensures.plain
