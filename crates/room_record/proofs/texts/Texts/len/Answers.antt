use Rattle.std.proofs.Common.{length, ap, ◌∙◌}
use Rattle.room_record.proofs.Joined.{ends_counted}
use Rattle.room_record.proofs.texts.Texts.len.Goals as goal

pub returns : goal.returns
returns c = c.len.ensures ∙ c.self.inside.ends.ok.0 ∙ ap length c.self.invariant.1 ∙ ends_counted 0 _ ∙ ap length c.self.view_is
