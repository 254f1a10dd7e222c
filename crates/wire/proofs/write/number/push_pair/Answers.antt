use Rattle.std.proofs.Common.{◌≡◌, ◌∷◌, [], ◌++◌, ◌-◌, ◌∙◌, sym, subst, take, drop, arith, rules}
use Rattle.std.specs.Fmt.{decimal}
use Rattle.std.specs.Str.{IsUtf8}
use Rattle.std.proofs.lemmas.List.{take_all, length-drop}
use Rattle.wire.proofs.Pairs.{pair_is_utf8}
use Rattle.wire.proofs.write.number.push_pair.Goals as goal

pub from_utf8_unchecked-requires : goal.from_utf8_unchecked-requires
from_utf8_unchecked-requires c =
    let o = c.put_before-open in
    let text = drop o.result o.new.bytes in
    let all : take (23 - o.result) text ≡ text = take_all (23 - o.result) text (omega (arith, length-drop o.result o.new.bytes)) in
    let is : text ≡ 91 ∷ (decimal c.args.first ++ 44 ∷ (decimal c.args.second ++ 93 ∷ [])) = search rules in
    subst IsUtf8 (sym (all ∙ is)) (pair_is_utf8 c.args.first c.args.second (omega (arith, c.ranges.first)) (omega (arith, c.ranges.second)))
