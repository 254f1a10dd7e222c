use Rattle.std.proofs.Common.{◌≡◌, ◌+◌, ◌++◌, ◌∷◌, [], ℕ, List, Some, None, true, sym, ap, subst, ◌∙◌}
use Rattle.std.specs.Prelude.{option_map}
use Rattle.std.specs.List.{AllByRecursion}
use Rattle.std.proofs.lemmas.Bool.{and_from, le-leb}
use Rattle.base_types.specs.Names.{is_site}
use Rattle.wire.specs.Form.{IsNote}
use Rattle.wire.specs.Notes.{Note, Notes, notes_after}
use Rattle.wire.specs.Rising.{rise, site_before}
use Rattle.notes.specs.Notes.{notes_at}
use Rattle.notes.proofs.Places.{IsListedTo, all_listed, all_rise, listed_none, listed_one, none_listed, push_all}
use Rattle.notes.proofs.notes.Notes.list_after.Goals as goal
use Rattle.notes.proofs.notes.Notes.list_after.Goals.{in-Some+in_ok-copy+in_ok-push, in_default}

pub loop-site-init : goal.loop-site-init
loop-site-init c =
    let notes = notes_after c.args.asker c.args.request.now (notes_at c.args.self.now) in
    subst (λ (l : List Note). IsListedTo 1 l notes × AllByRecursion IsNote l) (sym c.new-notes.ensures.items) (none_listed notes, tt)

pub loop-site-preserved : goal.loop-site-preserved
loop-site-preserved c =
    let notes : Notes = notes_after c.args.asker c.args.request.now (notes_at c.args.self.now) in
    let site = c.loop-site.site in
    let P : List Note → Type 0 = λ l. IsListedTo (site + 1) l notes × AllByRecursion IsNote l in
    elim c.match-note_after.branch [
      | in-Some+in_ok-copy+in_ok-push w ↦
          (let text = w.in-Some.text.now in
          let found : notes site ≡ Some text = sym c.note_after.ensures.note ∙ ap (option_map (λ t. t.now)) w.in-Some.is in
          let pushed : w.push.new.self.items ≡ c.loop-site.notes.items ++ (site, text) ∷ [] = w.in_ok-push.ensures.items ∙ ap (λ (t : List ℕ). c.loop-site.notes.items ++ (site, t) ∷ []) w.in_ok-copy.ensures in
          let is_site : is_site site ≡ true = and_from _ _ (le-leb 1 site c.loop-site.auto.site) (le-leb site 256 c.loop-site-test.true) in
          subst P (sym (ap (λ v. v.items) w.notes-is ∙ pushed)) (
            listed_one site c.loop-site.notes.items notes text found c.loop-site-test.true c.loop-site.invariant.0,
            push_all IsNote c.loop-site.notes.items (site, text) c.loop-site.invariant.1 (is_site, w.text-text.ensures.range),
          ))
      | in_default w ↦
          (let none : notes site ≡ None = sym c.note_after.ensures.note ∙ ap (option_map (λ t. t.now)) w.in_default.is in
          subst P (sym (ap (λ v. v.items) w.notes-is)) (listed_none site c.loop-site.notes.items notes none c.loop-site-test.true c.loop-site.invariant.0, c.loop-site.invariant.1))
    ]

pub returns-clause-list : goal.returns-clause-list
returns-clause-list c =
    let notes = notes_after c.args.asker c.args.request.now (notes_at c.args.self.now) in
    c.from_vec.ensures ∙ all_listed c.loop-site.site c.loop-site.notes.items notes c.loop-site-test.false c.loop-site.invariant.0

pub returns-clause-range : goal.returns-clause-range
returns-clause-range c =
    let notes = notes_after c.args.asker c.args.request.now (notes_at c.args.self.now) in
    let all = all_listed c.loop-site.site c.loop-site.notes.items notes c.loop-site-test.false c.loop-site.invariant.0 in (
      subst (AllByRecursion IsNote) (sym c.from_vec.ensures) c.loop-site.invariant.1,
      subst (λ (l : List Note). rise site_before l ≡ true) (sym (c.from_vec.ensures ∙ all)) (all_rise notes),
    )
