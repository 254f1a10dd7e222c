use Rattle.std.proofs.Common.{[], ◌∷◌, map, sym, ap, ◌∙◌, subst}
use Rattle.std.proofs.lemmas.List.{map-append}
use Rattle.std.specs.Arc.{arc_value}
use Rattle.room_record.specs.steps.Records.{AreTexts}
use Rattle.room_record.proofs.FirstTexts.{one_more_entry}
use Rattle.room_record.proofs.record.Record.push_reserved.Goals as goal

pub invariant_of-self : goal.invariant_of-self
invariant_of-self c =
    let had = c.self.inside.entries.items in
    let texts = c.self.inside.texts in
    let more = ap (map arc_value) c.push_reserved.ensures.items ∙ map-append arc_value had (c.args.entry ∷ []) in
    subst (AreTexts texts) (sym more) (one_more_entry texts (map arc_value had) (arc_value c.args.entry) c.self.invariant)
