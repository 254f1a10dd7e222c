-- The entries of one site.
use Rattle.std.specs.Prelude.{ℕ, ◌==◌, Bool, false, not, count_by, List, [], ◌∷◌, Option, Some, None}
use Rattle.rules.specs.Records.{is_end}
use Rattle.rules.specs.declared.history.Entry.{Entry}
use Rattle.rules.specs.declared.history.Entry.TheVariants.{Join, Next, Operation}

abbrev pub none_or_one : {X : Type 0} → Option X → List X
none_or_one None = []
none_or_one (Some x) = x ∷ []

-- the site's own entry: its join, or an operation of it
abbrev pub is_of_site : ℕ → Entry → Bool
is_of_site site (Join joined) = joined == site
is_of_site site (Operation op) = op.name.0 == site
is_of_site site (Next count) = false

-- the number of entries that sites have added: all but the end
abbrev pub count_of_sites : List Entry → ℕ
count_of_sites r = count_by (λ entry. not (is_end entry)) r

abbrev pub count_of_site : ℕ → List Entry → ℕ
count_of_site site r = count_by (is_of_site site) r
