-- The base of a change is the one group of what it knows that has the identifier which it names.
use Rattle.std.proofs.Common.{◌≡◌, List, refl, sym, ◌∙◌, Option, Some, None, ◌↔◌}
use Rattle.std.specs.Prelude.{Contains}
use Rattle.rules.specs.declared.history.Op.{Op}
use Rattle.rules.specs.Bodies.{version_of_body}
use Rattle.rules.specs.Groups.{IsGroup, identifier}
use Rattle.rules.specs.Operations.{IsHistory, known, name_of}
use Rattle.rules.specs.Conflicts.{base, conflict, members}
use Rattle.rules.proofs.Lists.{In}
use Rattle.rules.proofs.Changes.{Once-known, in_known_back, one_op}
use Rattle.rules.proofs.Groups.{sublist_in}
use Rattle.rules.proofs.Identifiers.{group_named_is}
use Rattle.rules.proofs.Agreement.{base_is}

module _ {h : List Op} (i : IsHistory h) (b : Op) (m : Contains h b) where
  -- base(b) is g exactly where g is a group of what b knows and b names g's identifier
  pub base_is_group : (g : List Op) → (base h b ≡ Some g) ↔ (IsGroup (conflict h) (known h b) g × (identifier (conflict h) name_of (known h b) g ≡ version_of_body b.body))
  base_is_group g =
      let k = group_named_is (conflict h) name_of (known h b) (version_of_body b.body) g
      (λ x y p q e. one_op i x y (in_known_back h b x p).there (in_known_back h b y q).there e) (Once-known i b) in
      ((λ e. k.0 (sym (base_is i b m) ∙ e)), (λ e. base_is i b m ∙ k.1 e))

pub record HasBase (h : List Op) (b x : Op) : Type 0 where
  pub group : List Op
  pub is : base h b ≡ Some group
  pub there : In x group

pub has_base : (h : List Op) (b x : Op) → In x (members (base h b)) → HasBase h b x
has_base h b x m = go (base h b) refl m
  where
    go : (o : Option (List Op)) → base h b ≡ o → In x (members o) → HasBase h b x
    go None e l = absurd l
    go (Some g) e l = record { group = g; is = e; there = l }

-- the members of a base are known
pub base_within_known : {h : List Op} → IsHistory h → (b x : Op) → Contains h b → In x (members (base h b)) → In x (known h b)
base_within_known {h} i b x m l =
    let c = has_base h b x l in
    sublist_in c.group (known h b) ((base_is_group i b m c.group).0 c.is).0.inside x c.there
