use Rattle.std.proofs.Common.{◌≡◌, ℕ, ◌∙◌, sym, Option, Some, None, true, false}
use Rattle.std.specs.Prelude.{MatchOption, is_some}
use Rattle.std.proofs.lemmas.Bool.{true≢false}
use Rattle.changes_by_key.proofs.Keyed.{key_given, key_by_last}
use Rattle.changes_by_key.proofs.by_key.ByKey.has.Goals as goal

found : (r : Option ℕ) (N : Type 0) (P : ℕ → Type 0) → MatchOption r N P → is_some r ≡ true → (i : ℕ) × P i
found (Some i) N P m e = (i, m)
found None N P m e = absurd (true≢false (sym e))

missed : (r : Option ℕ) (N : Type 0) (P : ℕ → Type 0) → MatchOption r N P → is_some r ≡ false → N
missed (Some i) N P m e = absurd (true≢false e)
missed None N P m e = m

pub returns-then-is_some : goal.returns-then-is_some
returns-then-is_some c =
    let f = found c.find.result _ _ c.find.ensures (sym c.is_some.ensures ∙ c.if-is_some.true) in
    c.if-is_some.true ∙ sym (key_given c.args.ops.now c.args.self.now c.requires.keys c.args.key.now f.0 f.1.0 f.1.1)

pub returns-else-is_some : goal.returns-else-is_some
returns-else-is_some c =
    key_by_last c.args.ops.now c.args.self.now c.requires.keys c.args.key.now (missed c.find.result _ _ c.find.ensures (sym c.is_some.ensures ∙ c.if-is_some.false)) c.is_key_of_unindexed.result c.is_key_of_unindexed.ensures
