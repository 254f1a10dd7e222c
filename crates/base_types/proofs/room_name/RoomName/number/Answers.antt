use Rattle.std.proofs.Common.{◌≡◌, sym, ◌∙◌, ap, arith, true, List, ℕ}
use Rattle.std.specs.List.{after_first}
use Rattle.std.specs.Str.Parse.{digits_value}
use Rattle.base_types.specs.RoomNames.{is_dot, is_successor_number}
use Rattle.base_types.proofs.Choices.{none_if}
use Rattle.base_types.proofs.RoomNames.{first_number, later_number, later_digits, number-lt}
use Rattle.base_types.proofs.room_name.RoomName.number.Goals as goal

-- the digits are what stands behind the name's dot
text_of : (c : goal.After-number_text) → c.number_text.result.now ≡ after_first is_dot c.args.self.now
text_of c = c.number_text.ensures ∙ ap (λ (name : List ℕ). after_first is_dot name) (c.as_bytes.ensures.value ∙ c.text.ensures.text)

pub returns-then-is_first-clause-value : goal.returns-then-is_first-clause-value
returns-then-is_first-clause-value c = first_number _ (sym c.is_first.ensures ∙ c.if-is_first.true)

pub number_of-requires : goal.number_of-requires
number_of-requires c =
    ap is_successor_number (text_of c) ∙ later_digits _ (none_if _ c.text.ensures.range) (sym c.is_first.ensures ∙ c.if-is_first.false)

pub returns-clause-value : goal.returns-clause-value
returns-clause-value c =
    c.number_of.ensures ∙ ap (digits_value 10) (text_of c.before) ∙ later_number _ (sym c.is_first.ensures ∙ c.if-is_first.false)

pub returns-clause-range : goal.returns-clause-range
returns-clause-range c = omega (arith, c.number_of.ensures, number-lt _ (number_of-requires c.before))
