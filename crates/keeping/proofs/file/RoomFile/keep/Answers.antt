use Rattle.std.proofs.Common.{◌≡◌, ◌++◌, List, map, sym, ◌∙◌, ap, subst}
use Rattle.std.specs.Prelude.{IfSome}
use Rattle.std.specs.Arc.{arc_value}
use Rattle.rules.specs.declared.history.Entry.{Entry}
use Rattle.record_file.specs.RecordText.{AreLines, record_text}
use Rattle.keeping.proofs.Goes.{kept_more}
use Rattle.keeping.proofs.file.RoomFile.keep.Goals as goal

pub invariant_of-self : goal.invariant_of-self
invariant_of-self g c =
    let news = map arc_value c.entries.result.now in
    let entries = c.self.inside.kept.entries in
    let e = c.in-Ok.ensures in
    let more = kept_more _ _ entries news (record_text news) c.self.invariant.0 e.kept e.lines in
    let same : news ≡ c.args.news.now.entries = c.entries.ensures in
    let all : entries ++ news ≡ c.of.result.entries =
    (λ j. (c.self.view_is j).kept.entries ++ same j) ∙ c.requires.news ∙ sym (ap (λ p. p.entries) (c.of.ensures ∙ c.whole.ensures)) in
    (subst (λ (r : List Entry). IfSome (g.J.Journal.kept c.put_behind.new.journal) (λ bytes. AreLines bytes r)) all more, λ _. e.held)
