use Rattle.std.proofs.Common.{◌≡◌, ◌∙◌, ap, sym, subst, Some}
use Rattle.std.proofs.lemmas.Bool.{true≢false}
use Rattle.std.proofs.lemmas.Option.{none-some}
use Rattle.std.specs.Map.{lookup}
use Rattle.std.specs.Prelude.{bytes_eq}
use Rattle.std.proofs.lemmas.Map.Made.{lookup_key_same}
use Rattle.std.proofs.lemmas.Slice.Eq.{bytes_eq-Decides}
use Rattle.room_lock.specs.InOrder.{opening_name}
use Rattle.room_lock.specs.steps.Openings.{AreNamed}
use Rattle.room_lock.proofs.InOrder.{named_at, named_without}
use Rattle.room_lock.proofs.others.Directory.end.Goals as goal

pub invariant_of-self : goal.invariant_of-self
invariant_of-self g c = subst AreNamed (sym c.swap_remove.ensures.entries) (named_without (bytes_eq c.args.name.now) c.self.inside.openings.entries c.self.invariant)

pub returns-clause-name : goal.returns-clause-name
returns-clause-name g c = λ is.
    let openings = c.self.inside.openings.entries in
    let name = c.args.name.now in
    let key = lookup_key_same bytes_eq-Decides name openings c.in-Some._name.now (sym c.in-Some.ensures.key) in
    let named = named_at openings c.self.invariant c.in-Some._index c.in-Some._name.now c.in-Some.found.now c.in-Some.ensures.entry in
    let same : c.in-Some.found.now ≡ c.args.opening.now = c.is_same.ensures.0 c.if-not-is_same.false in
    ap opening_name (sym same) ∙ named ∙ sym key

pub returns-in_default-clause-open : goal.returns-in_default-clause-open
returns-in_default-clause-open g c = (
  λ e. absurd (true≢false (sym e)),
  λ some. absurd (none-some _ (c.in_default.ensures.value ∙ ap (lookup (bytes_eq c.args.name.now)) c.self.view_is ∙ some)),
)

pub returns-then-not-is_same-clause-open : goal.returns-then-not-is_same-clause-open
returns-then-not-is_same-clause-open g c = (
  λ e. absurd (true≢false (sym e)),
  λ some. (let found : Some c.in-Some.found.now ≡ Some c.args.opening.now = c.in-Some.ensures.value ∙ ap (lookup (bytes_eq c.args.name.now)) c.self.view_is ∙ some in
      let same : c.in-Some.found.now ≡ c.args.opening.now = cc found in
      sym c.if-not-is_same.true ∙ c.is_same.ensures.1 same),
)
