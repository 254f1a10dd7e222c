use Rattle.std.proofs.Common.{◌-◌, ap, sym, ◌∙◌, arith, length, min, vec_capacity, vec_len}
use Rattle.std.proofs.lemmas.List.{length-map}
use Rattle.causal.specs.steps.Past.{PastState}
use Rattle.base_types.specs.Names.{is_site, is_seq}
use Rattle.base_types.specs.Vectors.{is_vector}
use Rattle.rules.specs.declared.history.Op.{Op}
use Rattle.causal.proofs.Index.{index_grown}
use Rattle.causal.proofs.Past.add_reserved.Goals as goal

pub invariant_of-self : goal.invariant_of-self
invariant_of-self c =
    index_grown (λ list. list.items) c.self.inside.operations.items c.push_reserved-2.new.self.items c.args.op c.self.inside.places.items (c.site-site.result - 1) c.len-place.result c.index_mut.result.now c.push_reserved.new.self
    c.self.invariant (rw (← c.self.view_is) at c.requires.admitted) (ap (λ (op : Op). is_vector op.seen) (sym c.deref-2.ensures) ∙ c.pairs.ensures.range) (ap (λ (op : Op). is_site op.name.0) (sym c.deref-3.ensures) ∙ c.site-site.ensures.range) (ap (λ (op : Op). is_seq op.name.1) (sym c.deref.ensures) ∙ c.seq-site.ensures.range)
    (omega (arith, c.requires.listed, ap length (ap (λ (past : PastState). past.reserve) c.self.view_is), length-map c.self.inside.places.items (λ list. min (vec_capacity c.self.inside.operations - vec_len c.self.inside.operations) (vec_capacity list - vec_len list))))
    c.push_reserved-2.ensures.items
    (ap (λ site. site - 1) c.site-site.ensures.value ∙ ap (λ (op : Op). op.name.0 - 1) c.deref-3.ensures)
    (c.len-place.ensures ∙ c.self.inside.operations.ok.0)
    c.index_mut.ensures.value
    c.push_reserved.ensures.items
