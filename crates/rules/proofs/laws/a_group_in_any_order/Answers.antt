use Rattle.std.proofs.Common.{◌↔◌, List}
use Rattle.std.specs.Prelude.{Contains}
use Rattle.rules.specs.declared.history.Op.{Op}
use Rattle.rules.proofs.Lists.{In-from_Contains, Contains-from_In}
use Rattle.rules.proofs.Reordered.{SameMembers, attributes_reordered}
use Rattle.rules.proofs.Drops.{shown_reordered}
use Rattle.rules.proofs.laws.a_group_in_any_order.Goals as goal

members_of : (f g : List Op) → ((a : Op) → Contains f a ↔ Contains g a) → SameMembers f g
members_of f g same = record {
  to = λ a m. In-from_Contains a g ((same a).0 (Contains-from_In a f m));
  back = λ a m. In-from_Contains a f ((same a).1 (Contains-from_In a g m));
}

pub returns-clause-attributes : goal.returns-clause-attributes
returns-clause-attributes c = λ initial f g same one.
    attributes_reordered f g (members_of f g same) initial (λ key a b m n d e. one key a b (Contains-from_In a f m) (Contains-from_In b f n) d e)

pub returns-clause-shown : goal.returns-clause-shown
returns-clause-shown c = λ initial f g same one.
    shown_reordered f g (members_of f g same) initial (λ key a b m n d e. one key a b (Contains-from_In a f m) (Contains-from_In b f n) d e)
