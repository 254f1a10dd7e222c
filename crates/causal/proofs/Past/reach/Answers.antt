use Rattle.std.proofs.Common.{rules, ◌-◌, min, vec_capacity, vec_len, refl, arith}
use Rattle.causal.proofs.Index.{index_reached, room_pushed}
use Rattle.causal.proofs.Past.reach.Goals as goal

pub loop-self-init : goal.loop-self-init
loop-self-init c = (
  refl,
  rw c.reserve.ensures.items c.self.invariant,
  (λ k. rw (c.reserve.ensures.items, ← c.self.view_is) (omega arith)),
  search rules,
)

pub loop-self-preserved : goal.loop-self-preserved
loop-self-preserved c = (
  c.loop-self.invariant.0,
  rw c.push_reserved.ensures.items (index_reached (λ list. list.items) c.loop-self.self-inside.operations.items c.loop-self.self-inside.places.items c.new.result c.loop-self.invariant.1 c.new.ensures.items),
  (λ k. rw c.push_reserved.ensures.items (omega (arith, c.loop-self.invariant.2 k, room_pushed (λ list. min (vec_capacity c.loop-self.self-inside.operations - vec_len c.loop-self.self-inside.operations) (vec_capacity list - vec_len list)) c.loop-self.self-inside.places.items c.new.result k))),
  omega (arith, c.loop-self.invariant.3, c.push_reserved.ensures.capacity),
)

pub returns-after-loop-self-clause-kept : goal.returns-after-loop-self-clause-kept
returns-after-loop-self-clause-kept c = c.loop-self.invariant.2
