use Rattle.std.proofs.Common.{◌≡◌, ◌++◌, ◌∷◌, [], map, append_assoc, ap, sym, subst, ◌∙◌}
use Rattle.std.specs.Prelude.{All}
use Rattle.std.specs.Arc.{arc_value}
use Rattle.std.specs.Map.{keys_of}
use Rattle.std.proofs.lemmas.List.{map-append}
use Rattle.std.proofs.lemmas.List.Elements.{All-push}
use Rattle.base_types.specs.Texts.{Bytes}
use Rattle.room_lock.specs.Closing.{IsClosed}
use Rattle.room_lock.proofs.closing.close_all.Goals as goal

pub loop-name-preserved : goal.loop-name-preserved
loop-name-preserved g c =
    let i = c.loop-name.invariant in
    let old = c.loop-name.records.items in
    let last = c.in_ok-record.record in
    let name = c.in-Some.name in
    let rest = keys_of c.next.new.self in
    let e = c.in_ok-record.ensures in
    let put = c.in_ok-push_record.ensures in
    let room : _ → Bytes = λ one. one.room in
    let P : _ → Type 0 = λ one. IsClosed g.P.RoomHistories.limits (map arc_value one.entries.items) one.parts.items in
    let here : P last = e.closed in
    let steps : keys_of c.loop-name.name-iterator ≡ name ∷ rest = ap keys_of c.in-Some.ensures.steps in (
      ap (λ l. map room l ++ rest) put ∙ ap (λ l. l ++ rest) (map-append room old (last ∷ []))
          ∙ append_assoc (map room old) (room last ∷ []) rest
          ∙ ap (λ l. map room old ++ l) (ap (λ n. n ∷ rest) e.name ∙ sym steps) ∙ i.0,
      subst (All P) (sym put) (All-push P old last i.1 here),
    )
