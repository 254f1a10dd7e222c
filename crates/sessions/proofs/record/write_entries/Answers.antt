use Rattle.std.proofs.Common.{◌≡◌, ◌+◌, ◌++◌, ◌∷◌, [], List, ℕ, map, take, ap, sym, subst, ◌∙◌, string_bytes}
use Rattle.std.specs.Arc.{arc_value}
use Rattle.std.specs.Io.KnownBytes.{Appends}
use Rattle.std.proofs.KnownBytes.{Appends-trans}
use Rattle.serde_json.specs.Written.{compact_text}
use Rattle.wire.specs.Form.{entry_form}
use Rattle.record_file.specs.RecordText.{record_text}
use Rattle.base_types.proofs.Lists.{map_next}
use Rattle.sessions.proofs.Printed.{record_text_more}
use Rattle.sessions.proofs.record.write_entries.Goals as goal

pub loop-entry-preserved : goal.loop-entry-preserved
loop-entry-preserved g c =
    let es = c.args.entries.now in
    let k = c.loop-entry.entry-index in
    let e = c.entry-item.result in
    let more = map_next arc_value es k e c.loop-entry-test.true c.entry-item.is in
    let text : string_bytes c.in_ok-write_entry.field-0 ≡ compact_text (entry_form (arc_value e)) = c.in_ok-write_entry.ensures.text ∙ ap (λ x. compact_text (entry_form x)) c.deref.ensures in
    let lines : record_text (map arc_value (take k es)) ++ (string_bytes c.in_ok-write_entry.field-0 ++ 10 ∷ []) ≡ record_text (map arc_value (take (k + 1) es)) =
    ap (λ t. record_text (map arc_value (take k es)) ++ (t ++ 10 ∷ [])) text ∙ sym (record_text_more (map arc_value (take k es)) (arc_value e)) ∙ ap record_text (sym more) in
    let P : List ℕ → Type 0 = Appends (g.W.Write.contents c.args.output.now) (g.W.Write.contents c.write_line.new.output) in
    subst P lines (Appends-trans _ _ _ _ _ c.loop-entry.invariant c.in_ok-write_line.ensures)
