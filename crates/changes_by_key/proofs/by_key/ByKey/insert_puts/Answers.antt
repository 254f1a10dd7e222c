use Rattle.std.proofs.Common.{◌≡◌, ◌∙◌, ◌||◌, ap, sym, subst, get_or, length, [], List, ℕ}
use Rattle.std.proofs.lemmas.Result.{on_ok_weaker}
use Rattle.std.proofs.lemmas.List.{get_or_default}
use Rattle.places.specs.steps.PlaceSet.{has}
use Rattle.changes_by_key.specs.steps.Indexes.{OfKey, KeyIndex, key_at}
use Rattle.places.specs.steps.PlaceSet.{AreBelow}
use Rattle.places.proofs.WordPlaces.{has-with_all}
use Rattle.changes_by_key.proofs.Keyed.{puts_with, puts_within, within_joined}
use Rattle.changes_by_key.proofs.by_key.ByKey.insert_puts.Goals as goal

pub returns-in-Some-clause-puts : goal.returns-in-Some-clause-puts
returns-in-Some-clause-puts c =
    let index = c.args.self.now in
    let old : List ℕ = c.args.members.now in
    let entry : c.index.result.now ≡ key_at index.keys c.in-Some.i =
    c.index.ensures ∙ ap (λ (s : KeyIndex). get_or s.keys c.in-Some.i c.index.result.now) c.self.view_is ∙ get_or_default index.keys c.in-Some.i c.index.result.now (key_at [] 0) c.in-Some.ensures.0 in
    let own : c.behind-self.inside.places ≡ (key_at index.keys c.in-Some.i).places = ap (λ (o : OfKey). o.places) (c.behind-self.view_is ∙ entry) in
    on_ok_weaker c.insert_all.result
    (λ e ops p w b. ap (λ (ps : List ℕ). has ps p) e ∙ has-with_all old c.behind-self.inside.places p
    ∙ ap (λ (ps : List ℕ). has old p || has ps p) own
    ∙ ap (λ h. has old p || h) (puts_with ops index w c.args.key.now c.in-Some.i p c.in-Some.ensures.0 c.in-Some.ensures.1 b))
    c.insert_all.ensures.ok

pub returns-in-Some-clause-within : goal.returns-in-Some-clause-within
returns-in-Some-clause-within c =
    let index = c.args.self.now in
    let entry : c.index.result.now ≡ key_at index.keys c.in-Some.i =
    c.index.ensures ∙ ap (λ (s : KeyIndex). get_or s.keys c.in-Some.i c.index.result.now) c.self.view_is ∙ get_or_default index.keys c.in-Some.i c.index.result.now (key_at [] 0) c.in-Some.ensures.0 in
    let own : c.behind-self.inside.places ≡ (key_at index.keys c.in-Some.i).places = ap (λ (o : OfKey). o.places) (c.behind-self.view_is ∙ entry) in
    on_ok_weaker c.insert_all.result
    (λ e ops w low. subst (AreBelow (length ops)) (sym e) (within_joined (length ops) c.args.members.now c.behind-self.inside.places low (subst (AreBelow (length ops)) (sym own) (puts_within ops index w c.in-Some.i c.in-Some.ensures.0))))
    c.insert_all.ensures.ok
