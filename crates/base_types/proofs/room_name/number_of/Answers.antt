use Rattle.std.proofs.Common.{◌≡◌, sym, ◌∙◌, ap, rules}
use Rattle.base_types.proofs.RoomNames.{number-IsUtf8, number_parses}
use Rattle.base_types.proofs.room_name.number_of.Goals as goal

pub unreachable-requires : goal.unreachable-requires
unreachable-requires c = c.in_default.ensures.cases.0 (number-IsUtf8 _ c.requires)

pub unreachable-requires-in_default-parse : goal.unreachable-requires-in_default-parse
unreachable-requires-in_default-parse c =
    c.in_default-parse.not-Ok _ (number_parses c.args.digits.now c.in-Ok.text.now c.parse.result c.requires c.in-Ok.ensures.cases.0 c.parse.ensures.value.0)

pub returns : goal.returns
returns c =
    search (rules, number_parses c.args.digits.now c.in-Ok.text.now c.parse.result c.requires c.in-Ok.ensures.cases.0 c.parse.ensures.value.0)
