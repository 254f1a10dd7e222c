use Rattle.std.proofs.Common.{◌≡◌, ◌+◌, ◌-◌, drop, take, length, ap, ◌∙◌, arith}
use Rattle.room_record.specs.steps.Texts.{with_commas}
use Rattle.room_record.proofs.Joined.{a_comma, part}
use Rattle.room_record.proofs.texts.Texts.text_of.Goals as goal

pub overflow_sub-comma : goal.overflow_sub-comma
overflow_sub-comma c =
    let comma = a_comma c.args.self.now c.args.end (omega arith) c.requires.range in
    omega (arith, comma, c.len_before-comma.ensures)

pub returns : goal.returns
returns c =
    let texts = c.args.self.now in
    let start = c.len_before-start.result in
    let comma = c.len_before-comma.result - 1 in
    let bytes = c.deref.ensures ∙ c.self.invariant.0 ∙ ap with_commas c.self.view_is in
    let some = a_comma texts c.args.end (omega arith) c.requires.range in
    let size : comma + 1 ≡ length (with_commas (take c.args.end texts)) = omega (arith, some, c.len_before-comma.ensures) in
    c.in_ok-from_str.ensures.ok ∙ c.in-Some.ensures.cases.0
    ∙ ap (λ s. take (comma - start) (drop start s)) bytes
    ∙ part texts c.args.from c.args.end start comma (omega arith) c.requires.range c.len_before-start.ensures size
