use Rattle.std.proofs.Common.{◌≡◌, ◌<◌, ◌∙◌, sym, ap, subst, length, ℕ, List, true, arith}
use Rattle.std.proofs.lemmas.Result.{IfOk-weaker}
use Rattle.rules.specs.declared.history.Body.{Body}
use Rattle.rules.specs.AttrLists.{Attr}
use Rattle.rules.specs.Bodies.{are_at_odds}
use Rattle.places.specs.steps.PlaceSet.{has, places}
use Rattle.places.specs.steps.Changes.{at, Changes}
use Rattle.places.proofs.Places.{In-places, below, has_if_in, in_if_has}
use Rattle.changes_by_key.specs.steps.Indexes.{AreByKey, is_drop_or_gives}
use Rattle.places.specs.steps.PlaceSet.{AreBelow}
use Rattle.conflict.proofs.Candidates.{at_odds_found}
use Rattle.conflict.proofs.object_changes.ObjectChanges.that_may_be_at_odds.Goals as goal

-- the first places are those below
first_within : (n m : ℕ) (found : List ℕ) → m ≡ n → found ≡ places m → AreBelow n found
first_within n m found e f x h = below n x (in_if_has (places n) x (sym (ap (λ (l : List ℕ). has l x) (f ∙ ap places e)) ∙ h))

first_has : (n m : ℕ) (found : List ℕ) → m ≡ n → found ≡ places m → (x : ℕ) → x < n → has found x ≡ true
first_has n m found e f x l = ap (λ (s : List ℕ). has s x) (f ∙ ap places e) ∙ has_if_in (places n) x (In-places n x l)

pub returns-in-Put-clause-within : goal.returns-in-Put-clause-within
returns-in-Put-clause-within c =
    let k = c.args.self.now.ops in
    let index = c.self.inside.keys in
    let by_key : AreByKey k index = subst (λ (s : Changes). AreByKey s.ops index) c.self.view_is c.self.invariant.by_key in
    let size : length c.ops.result.now ≡ length k = ap length c.ops.ensures.changes ∙ ap (λ (s : Changes). length s.ops) c.self.view_is in
    IfOk-weaker c.maybe_at_odds.result _ _ (λ found h. subst (λ n. AreBelow n found) size (h k by_key (sym size))) c.maybe_at_odds.ensures.within

pub returns-in-Put-clause-all : goal.returns-in-Put-clause-all
returns-in-Put-clause-all c =
    let k = c.args.self.now.ops in
    let index = c.self.inside.keys in
    let by_key : AreByKey k index = subst (λ (s : Changes). AreByKey s.ops index) c.self.view_is c.self.invariant.by_key in
    let size : length c.ops.result.now ≡ length k = ap length c.ops.ensures.changes ∙ ap (λ (s : Changes). length s.ops) c.self.view_is in
    IfOk-weaker c.maybe_at_odds.result _ _
    (λ found h p l t. h k p by_key (omega (arith, size, l))
    (ap (λ (pairs : List Attr). is_drop_or_gives k pairs p) c.pairs.ensures.pairs
    ∙ at_odds_found c.in-Put.object c.in-Put.version c.in-Put.pairs (at k p).body (sym (ap (λ (b : Body). are_at_odds b (at k p).body) c.in-Put.is) ∙ t))) c.maybe_at_odds.ensures.found

pub returns-in-DropVersion-clause-within : goal.returns-in-DropVersion-clause-within
returns-in-DropVersion-clause-within c =
    let size : length c.ops.result.now ≡ length c.args.self.now.ops = ap length c.ops.ensures.changes ∙ ap (λ (s : Changes). length s.ops) c.self.view_is in
    IfOk-weaker c.first_places.result _ _ (λ found e. first_within (length c.args.self.now.ops) (length c.ops.result.now) found size e) c.first_places.ensures

pub returns-in-DropVersion-clause-all : goal.returns-in-DropVersion-clause-all
returns-in-DropVersion-clause-all c =
    let size : length c.ops.result.now ≡ length c.args.self.now.ops = ap length c.ops.ensures.changes ∙ ap (λ (s : Changes). length s.ops) c.self.view_is in
    IfOk-weaker c.first_places.result _ _ (λ found e p l t. first_has (length c.args.self.now.ops) (length c.ops.result.now) found size e p l) c.first_places.ensures
