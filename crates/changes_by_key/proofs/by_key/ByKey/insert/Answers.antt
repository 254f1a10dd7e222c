use Rattle.std.proofs.Common.{◌≡◌, ◌∙◌, sym, ap, subst, ℕ, true}
use Rattle.std.proofs.lemmas.Result.{on_ok_weaker}
use Rattle.base_types.specs.Texts.{Bytes}
use Rattle.changes_by_key.specs.steps.Indexes.{KeyIndex, AreByKey, IsUnder, key_at, of_key, with_key_at}
use Rattle.places.proofs.Outcomes.{by_result}
use Rattle.changes_by_key.proofs.Keyed.{by_key_grown, kept_grown, own_grown, by_key_begun, kept_begun, own_begun}
use Rattle.changes_by_key.proofs.by_key.ByKey.insert.Goals as goal

-- all that stood under a key still does
abbrev AreKept : KeyIndex → KeyIndex → Type 0
AreKept old new = (other : Bytes) (place : ℕ) → IsUnder old.keys other place → IsUnder new.keys other place

pub returns-in-Some-clause-keys : goal.returns-in-Some-clause-keys
returns-in-Some-clause-keys c =
    let k = c.args.ops.now in
    let index = c.args.self.now in
    let own : of_key k (key_at index.keys c.in-Some.i).key index.len ≡ true = ap (λ (key : Bytes). of_key k key index.len) c.in-Some.ensures.1 ∙ c.requires.given in
    by_result c.grow.result (AreByKey k) c.grow.new.self _ index c.grow.ensures.ok c.grow.ensures.err
    (by_key_grown k index c.requires.keys c.requires.more c.in-Some.i c.in-Some.ensures.0 own)
    c.requires.keys

pub returns-in-Some-clause-there : goal.returns-in-Some-clause-there
returns-in-Some-clause-there c =
    let k = c.args.ops.now in
    let index = c.args.self.now in
    let own : of_key k (key_at index.keys c.in-Some.i).key index.len ≡ true = ap (λ (key : Bytes). of_key k key index.len) c.in-Some.ensures.1 ∙ c.requires.given in
    on_ok_weaker c.grow.result
    (λ e. subst (λ (s : KeyIndex). IsUnder s.keys c.args.key.now index.len) (sym e)
    (subst (λ (key : Bytes). IsUnder (with_key_at c.in-Some.i index).keys key index.len) c.in-Some.ensures.1
    (own_grown k index c.requires.keys c.requires.more c.in-Some.i c.in-Some.ensures.0 own)))
    c.grow.ensures.ok

pub returns-in-Some-clause-kept : goal.returns-in-Some-clause-kept
returns-in-Some-clause-kept c =
    let k = c.args.ops.now in
    let index = c.args.self.now in
    let own : of_key k (key_at index.keys c.in-Some.i).key index.len ≡ true = ap (λ (key : Bytes). of_key k key index.len) c.in-Some.ensures.1 ∙ c.requires.given in
    by_result c.grow.result (AreKept index) c.grow.new.self _ index c.grow.ensures.ok c.grow.ensures.err
    (kept_grown k index c.requires.keys c.requires.more c.in-Some.i c.in-Some.ensures.0 own)
    (λ other place u. u)

pub returns-in-None-clause-keys : goal.returns-in-None-clause-keys
returns-in-None-clause-keys c =
    let k = c.args.ops.now in
    let index = c.args.self.now in
    by_result c.begin.result (AreByKey k) c.begin.new.self _ index c.begin.ensures.ok c.begin.ensures.err
    (by_key_begun k index c.requires.keys c.requires.more c.args.key.now c.requires.given c.in-None.ensures)
    c.requires.keys

pub returns-in-None-clause-there : goal.returns-in-None-clause-there
returns-in-None-clause-there c =
    let k = c.args.ops.now in
    let index = c.args.self.now in
    on_ok_weaker c.begin.result
    (λ e. subst (λ (s : KeyIndex). IsUnder s.keys c.args.key.now index.len) (sym e) (own_begun k index c.requires.keys c.requires.more c.args.key.now c.requires.given c.in-None.ensures))
    c.begin.ensures.ok

pub returns-in-None-clause-kept : goal.returns-in-None-clause-kept
returns-in-None-clause-kept c =
    let k = c.args.ops.now in
    let index = c.args.self.now in
    by_result c.begin.result (AreKept index) c.begin.new.self _ index c.begin.ensures.ok c.begin.ensures.err
    (kept_begun k index c.requires.keys c.requires.more c.args.key.now c.requires.given c.in-None.ensures)
    (λ other place u. u)
