use Rattle.std.proofs.Common.{◌≡◌, ◌+◌, ◌++◌, ◌∷◌, [], length, map, append-nil, append_assoc, length-append, ap, refl, sym, ◌∙◌, subst, arith}
use Rattle.std.specs.Prelude.{All}
use Rattle.std.specs.Arc.{arc_value}
use Rattle.std.proofs.lemmas.List.{map-append}
use Rattle.std.proofs.lemmas.List.Elements.{All-push}
use Rattle.base_types.specs.Texts.{Bytes}
use Rattle.room_lock.specs.Closing.{IsClosed}
use Rattle.room_lock.proofs.closing.close_others.Goals as goal

pub loop-name-init : goal.loop-name-init
loop-name-init g c = (c.len-most.ensures ∙ c.into_parts-openings.ensures, omega arith, ([], refl, sym (append-nil (map (λ one. one.room) c.args.records.now.items))), λ all. all)

pub loop-name-preserved : goal.loop-name-preserved
loop-name-preserved g c =
    let i = c.loop-name.invariant in
    let old = c.loop-name.records.items in
    let last = c.in_ok-close_stage.field-0 in
    let put = c.in_ok-push_record.ensures in
    let room : _ → Bytes = λ one. one.room in
    let P : _ → Type 0 = λ one. IsClosed g.P.RoomHistories.limits (map arc_value one.entries.items) one.parts.items in
    let names = i.2.0 in
    let within = c.if-count-most.false in
    let more : length (names ++ room last ∷ []) ≡ c.loop-name.count + 1 = length-append names (room last ∷ []) ∙ ap (λ n. n + 1) i.2.1 in (
      i.0,
      (let same = i.0 in omega (arith, within, same)),
      (names ++ room last ∷ [], more, ap (map room) put ∙ map-append room old (last ∷ []) ∙ ap (λ l. l ++ room last ∷ []) i.2.2 ∙ append_assoc (map room c.args.records.now.items) names (room last ∷ [])),
      (λ all. subst (All P) (sym put) (All-push P old last (i.3 all) c.in_ok-close_stage.ensures.closed)),
    )
