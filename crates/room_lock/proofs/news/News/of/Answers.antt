use Rattle.std.proofs.Common.{◌≡◌, ◌++◌, length, take, drop, map, arith, ap, sym, ◌∙◌, subst, refl}
use Rattle.std.specs.Prelude.{IsNone}
use Rattle.std.specs.Arc.{arc_value}
use Rattle.std.proofs.lemmas.List.{length-map, take-append-drop}
use mathlib.Core.List.{IsPrefix}
use Rattle.shared_history.proofs.Prefixes.{prefix_length}
use Rattle.room_lock.proofs.Fronts.{take_prefix}
use Rattle.room_lock.proofs.news.News.of.Goals as goal

pub share_from-requires : goal.share_from-requires
share_from-requires g c =
    let r = c.args.room.now.entries in
    let seen = c.args.since.now.entries in
    let begins : IsPrefix seen r = c.torn_place.ensures.begins (subst IsNone (sym c.in_default.is) refl) in
    let short = prefix_length seen r begins in
    let counted = length-map c.entries.result.now arc_value in
    omega (arith, short, counted, ap length c.entries.ensures, c.len.ensures)

pub returns-clause-entries : goal.returns-clause-entries
returns-clause-entries g c =
    let r = c.args.room.now.entries in
    let seen = c.args.since.now.entries in
    let begins : IsPrefix seen r = c.torn_place.ensures.begins (subst IsNone (sym c.in_default.is) refl) in
    let front : take (length seen) r ≡ seen = take_prefix seen r begins in
    let news = map arc_value c.in_ok-entries.entries.items in
    let behind : news ≡ drop (length seen) r = c.in_ok-entries.ensures ∙ (λ j. drop (c.len.ensures j) (c.entries.ensures j)) in
    (λ j. sym front j ++ behind j) ∙ take-append-drop (length seen) r
