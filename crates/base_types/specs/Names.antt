-- The names of operations.
use Rattle.std.specs.Prelude.{ℕ, Bool, ◌&&◌, ◌==◌, nat_le}
use Rattle.std.specs.declared.cmp.Ordering.{Ordering}
use Rattle.base_types.specs.declared.op_name.TheConstants.{MAX_SITE, MAX_SEQ}
use Rattle.std.specs.Ordering.{nat_cmp, on, then_cmp, eq_of_both}

-- an operation's name: its site, and its number among the site's operations
abbrev pub Name : Type 0
Name = ℕ × ℕ

abbrev pub is_site : ℕ → Bool
is_site site = nat_le 1 site && nat_le site MAX_SITE

abbrev pub is_seq : ℕ → Bool
is_seq seq = nat_le 1 seq && nat_le seq MAX_SEQ

abbrev pub is_op_name : Name → Bool
is_op_name name = is_site name.0 && is_seq name.1

abbrev pub same_name : Name → Name → Bool
same_name = eq_of_both (on (λ name. name.0) ◌==◌) (on (λ name. name.1) ◌==◌)

abbrev pub name_cmp : Name → Name → Ordering
name_cmp = then_cmp (on (λ name. name.0) nat_cmp) (on (λ name. name.1) nat_cmp)
