use Rattle.std.proofs.Common.{◌+◌, ◌-◌, ◌≤◌, length, map, take, drop, sym, ap, ◌∙◌, subst, arith}
use Rattle.std.specs.Arc.{arc_value}
use Rattle.wire.specs.steps.Forms.{entry_text}
use Rattle.wire.proofs.Pages.{of_texts}
use Rattle.room_record.specs.steps.Records.{AreTexts, RecordState}
use Rattle.room_record.specs.steps.Texts.{between_commas}
use Rattle.room_record.proofs.FirstTexts.{page_texts}
use Rattle.room_record.proofs.Parts.{page_of_shared, page_seen}
use Rattle.room_record.proofs.record.Record.page.Goals as goal

pub returns-then-from-len-clause-page : goal.returns-then-from-len-clause-page
returns-then-from-len-clause-page c =
    c.from_vec.ensures ∙ page_of_shared arc_value c.in_ok-entries.entries.items _ c.self.inside.entries.items c.args.from c.args.count c.min.result c.len.result
    c.in_ok-entries.ensures c.deref.ensures.value c.min.ensures (c.len.ensures ∙ c.self.inside.entries.ok.0)
    ∙ ap (λ (s : RecordState). take c.args.count (drop c.args.from s.entries)) c.self.view_is

pub returns-in_default-clause-page : goal.returns-in_default-clause-page
returns-in_default-clause-page c =
    c.from_vec-in_default.ensures ∙ page_of_shared arc_value c.in_ok-entries.entries.items _ c.self.inside.entries.items c.args.from c.args.count c.min.result c.len.result
    c.in_ok-entries.ensures c.deref.ensures.value c.min.ensures (c.len.ensures ∙ c.self.inside.entries.ok.0)
    ∙ ap (λ (s : RecordState). take c.args.count (drop c.args.from s.entries)) c.self.view_is

pub with_text-requires : goal.with_text-requires
with_text-requires c =
    let count = c.args.from + c.min.result - c.args.from in
    let entries = c.self.inside.entries.items in
    let texts = c.write_texts.new.texts in
    let of_entries = c.in_ok-entries.ensures ∙ ap (λ xs. map arc_value (take count (drop c.args.from xs))) c.deref.ensures.value ∙ page_seen arc_value entries count c.args.from in
    let are = subst (λ es. AreTexts texts (map arc_value es)) c.deref-2.ensures.value c.in_ok-write_texts.ensures.texts in
    let all : c.args.from + count ≤ length texts = omega (arith, c.in_ok-write_texts.ensures.all) in
    (rw c.in-Some.is at c.in_ok-text.ensures)
    ∙ ap between_commas (page_texts texts (map arc_value entries) c.args.from count are all ∙ ap (map entry_text) (sym of_entries))
    ∙ sym (of_texts entry_text (map arc_value c.in_ok-entries.entries.items))

pub returns-clause-page : goal.returns-clause-page
returns-clause-page c =
    c.with_text.ensures ∙ page_of_shared arc_value c.in_ok-entries.entries.items _ c.self.inside.entries.items c.args.from c.args.count c.min.result c.len.result
    c.in_ok-entries.ensures c.deref.ensures.value c.min.ensures (c.len.ensures ∙ c.self.inside.entries.ok.0)
    ∙ ap (λ (s : RecordState). take c.args.count (drop c.args.from s.entries)) c.self.view_is
