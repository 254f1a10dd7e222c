use Rattle.std.proofs.Common.{◌≡◌, ◌++◌, ◌∷◌, [], ◌+◌, List, ℕ, map, take, sym, ◌∙◌, ap, subst, string_bytes, rules}
use Rattle.std.specs.Arc.{arc_value}
use Rattle.rules.specs.declared.history.Entry.{Entry}
use Rattle.serde_json.specs.Written.{compact_text}
use Rattle.wire.specs.Form.{IsEntry, IsEntryText, entry_form}
use Rattle.record_file.specs.RecordText.{AreLines, record_text}
use Rattle.record_file.proofs.Ranges.{all_at}
use Rattle.record_file.proofs.Texts.{line_more, text_more, map_take_more}
use Rattle.record_file.proofs.text.text_of.Goals as goal

pub loop-entry-preserved : goal.loop-entry-preserved
loop-entry-preserved c =
    let all = c.args.entries.now in
    let at = c.loop-entry.entry-index in
    let entry = c.entry-item.result in
    let inv = c.loop-entry.invariant in
    let front = map arc_value (take at all) in
    let next : map arc_value (take (at + 1) all) ≡ front ++ arc_value entry ∷ [] =
    map_take_more arc_value all at entry c.loop-entry-test.true ∙ ap (λ x. front ++ arc_value x ∷ []) (sym c.entry-item.is) in
    let old = string_bytes c.loop-entry.text in
    let line = string_bytes c.in_ok-line.line in
    let new = string_bytes c.push.new.self in
    let value : c.deref.result.now ≡ arc_value entry = search rules in
    let text : new ≡ (old ++ line) ++ 10 ∷ [] = search rules in
    let is : line ≡ compact_text (entry_form (arc_value entry)) = c.in_ok-line.ensures.text ∙ ap (λ e. compact_text (entry_form e)) value in
    let back : IsEntry (arc_value entry) → IsEntryText line (arc_value entry) = subst (λ e. IsEntry e → IsEntryText line e) value c.in_ok-line.ensures.is_read in
    record {
      text = text ∙ text_more old line front (arc_value entry) inv.text is ∙ ap record_text (sym next);
      lines = λ range. subst (λ (r : List Entry). AreLines new r) (sym next)
          (subst (λ (bytes : List ℕ). AreLines bytes (front ++ arc_value entry ∷ [])) (sym text)
          (line_more old line front (arc_value entry) (inv.lines range) is
          (back (all_at (λ e. IsEntry (arc_value e)) all at entry c.loop-entry-test.true c.entry-item.is range))));
    }
