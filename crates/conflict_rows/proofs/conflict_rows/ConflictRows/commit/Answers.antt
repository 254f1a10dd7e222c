use Rattle.std.proofs.Common.{◌≡◌, ◌∙◌, sym, ap, subst, true, List, [], ◌∷◌, ◌++◌, ℕ, length, cond, arith}
use Rattle.std.specs.Prelude.{nat_lt}
use Rattle.std.proofs.lemmas.Bool.{and_from}
use Rattle.base_types.specs.Names.{Name, is_op_name, is_site, is_seq}
use Rattle.rules.specs.declared.history.Op.{Op}
use Rattle.places.specs.steps.Changes.{Added, IsAddition, Changes}
use Rattle.conflict_rows.specs.steps.Stored.{AreStored}
use Rattle.conflict_rows.proofs.Rows.{stored_push}
use Rattle.conflict_rows.proofs.conflict_rows.ConflictRows.commit.Goals as goal

-- what is stored afterwards, as the fields have it
stored : (s : Changes) (object : Name) (k k' : List Op) (bases bases' rows rows' : List (List ℕ)) (late late' conflicting conflicting' : List ℕ) (a : Added) (place conflicts : ℕ) → object ≡ s.object → k ≡ s.ops
    → AreStored object k bases rows late conflicting
    → IsAddition s.object s.ops a → is_op_name a.op.name ≡ true → k' ≡ k ++ a.op ∷ [] → bases' ≡ bases ++ a.base ∷ [] → rows' ≡ rows ++ a.row ∷ []
    → place ≡ length k → conflicts ≡ length a.row → late' ≡ cond (nat_lt 0 conflicts) (late ++ place ∷ []) late → conflicting' ≡ a.conflicting
    → AreStored object k' bases' rows' late' conflicting'
stored s object k k' bases bases' rows rows' late late' conflicting conflicting' a place conflicts o v w ready name e f g p q h m =
    let here : IsAddition object k a = subst (λ n. IsAddition n k a) (sym o) (subst (λ l. IsAddition s.object l a) (sym v) ready) in
    let next : List ℕ = cond (nat_lt 0 (length a.row)) (late ++ length k ∷ []) late in
    let now : AreStored object (k ++ a.op ∷ []) (bases ++ a.base ∷ []) (rows ++ a.row ∷ []) next a.conflicting = stored_push k bases rows late conflicting a w here name in
    let same : late' ≡ next = h ∙ (λ i. cond (nat_lt 0 (q i)) (late ++ p i ∷ []) late) in
    subst (λ x. AreStored object x bases' rows' late' conflicting') (sym e) (subst (λ x. AreStored object (k ++ a.op ∷ []) x rows' late' conflicting') (sym f) (subst (λ x. AreStored object (k ++ a.op ∷ []) (bases ++ a.base ∷ []) x late' conflicting') (sym g)
    (subst (λ x. AreStored object (k ++ a.op ∷ []) (bases ++ a.base ∷ []) (rows ++ a.row ∷ []) x conflicting') (sym same)
    (subst (λ x. AreStored object (k ++ a.op ∷ []) (bases ++ a.base ∷ []) (rows ++ a.row ∷ []) next x) (sym m) now))))

pub invariant_of-self : goal.invariant_of-self
invariant_of-self c =
    let parts = c.into_parts-op.ensures in
    let op : Op = c.deref.result.now in
    let name : is_op_name op.name ≡ true = and_from (is_site op.name.0) (is_seq op.name.1) c.site.ensures.range c.seq.ensures.range in
    let named : is_op_name c.args.addition.op.name ≡ true = sym (ap (λ (o : Op). is_op_name o.name) (c.deref.ensures ∙ ap (λ p. p.0) parts)) ∙ name in
    let was = c.self.inside in
    let place : c.len-place.result ≡ length was.ops.items = omega (arith, c.len-place.ensures, was.ops.ok) in
    stored c.args.self.now was.object was.ops.items c.push_reserved.new.self.items was.bases.items c.push_reserved-2.new.self.items was.rows.items c.push_reserved-3.new.self.items
    was.late.items c.push_if_late.new.late.items was.conflicting c.into_parts-op.result.3 c.args.addition c.len-place.result c.count-conflicts.result
    (ap (λ (s : Changes). s.object) c.self.view_is) (ap (λ (s : Changes). s.ops) c.self.view_is) c.self.invariant c.requires.ready named
    (c.push_reserved.ensures.items ∙ ap (λ p. was.ops.items ++ p.0 ∷ []) parts)
    (c.push_reserved-2.ensures.items ∙ ap (λ p. was.bases.items ++ p.1 ∷ []) parts)
    (c.push_reserved-3.ensures.items ∙ ap (λ p. was.rows.items ++ p.2 ∷ []) parts)
    place
    (c.count-conflicts.ensures ∙ ap (λ p. length p.2) parts)
    c.push_if_late.ensures
    (ap (λ p. p.3) parts)
