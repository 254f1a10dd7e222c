use Rattle.std.proofs.Common.{length, ap, ◌∙◌, arith}
use Rattle.room_record.specs.steps.Texts.{ends_from}
use Rattle.room_record.proofs.Joined.{end_read, ends_counted}
use Rattle.room_record.proofs.texts.Texts.len_before.Goals as goal

pub index-requires : goal.index-requires
index-requires c =
    let count = c.self.inside.ends.ok.0 ∙ ap length c.self.invariant.1 ∙ ends_counted 0 _ ∙ ap length c.self.view_is in
    omega (arith, count)

pub returns-else-place-eq0 : goal.returns-else-place-eq0
returns-else-place-eq0 c =
    end_read c.self.inside.ends.items c.args.self.now c.args.place c.index.result.now
    (c.self.invariant.1 ∙ ap (ends_from 0) c.self.view_is) (omega arith) c.requires c.index.ensures
