-- Worked examples: the records of a room in which one rectangle is drawn.
use Rattle.std.specs.Prelude.{ℕ, pos, List, [], ◌∷◌, ◌++◌, codes}
use Rattle.base_types.specs.Names.{Name}
use Rattle.base_types.specs.declared.value.Value.TheVariants.{Number, Text}
use Rattle.base_types.specs.Vectors.{Vector}
use Rattle.rules.specs.declared.history.Body.TheVariants.{New, Put, DropVersion}
use Rattle.rules.specs.declared.history.Entry.{Entry}
use Rattle.rules.specs.declared.history.Entry.TheVariants.{Join, Next, Operation}
use Rattle.rules.specs.declared.version.Shown.TheVariants.{Attrs, Gone}
use Rattle.rules.specs.declared.version.Version.{Version}
use Rattle.rules.specs.AttrLists.{Attr}

-- the key x, fill or line with a value
abbrev pub x : ℕ → Attr
x value = (codes "x", Number (pos value))

abbrev pub y : ℕ → Attr
y value = (codes "y", Number (pos value))

abbrev pub line : ℕ → Attr
line value = (codes "line", Number (pos value))

abbrev pub red : Attr
red = (codes "fill", Text (codes "red"))

-- the first site creates a rectangle with these attributes
abbrev pub rectangle : List Attr → Entry
rectangle attrs = Operation (record { name = (1, 1); seen = []; body = New (codes "rect") attrs })

-- the operation of this name, which has seen this, puts attributes into one of the rectangle's
-- versions
abbrev pub puts : Name → Vector → List Name → List Attr → Entry
puts name seen version pairs =
    Operation (record { name = name; seen = seen; body = Put (1, 1) version pairs })

-- or drops the version
abbrev pub drops : Name → Vector → List Name → Entry
drops name seen version =
    Operation (record { name = name; seen = seen; body = DropVersion (1, 1) version })

-- what has seen the creation alone
abbrev pub creation_alone : Vector
creation_alone = (1, 1) ∷ []

-- a version with this identifier and these attributes
abbrev pub version : List Name → List Attr → Version
version id attrs = record { id = id; shown = Attrs attrs }

-- a version with this identifier that is gone
abbrev pub gone : List Name → Version
gone id = record { id = id; shown = Gone }

-- ---- records

-- the first site creates a rectangle with x = 0 and puts x = 5
abbrev pub one_put : List Entry
one_put = Join 1 ∷ rectangle (x 0 ∷ []) ∷ Join 2 ∷ puts (1, 2) creation_alone [] (x 5 ∷ []) ∷ []

-- the second, which has not seen that put, puts x = 9
abbrev pub two_puts : List Entry
two_puts = one_put ++ puts (2, 1) creation_alone [] (x 9 ∷ []) ∷ []

-- a third joins
abbrev pub three_sites : List Entry
three_sites = two_puts ++ Join 3 ∷ []

-- and puts fill = red, seeing neither
abbrev pub another_key : List Entry
another_key = three_sites ++ puts (3, 1) creation_alone [] (red ∷ []) ∷ []

-- each of the first two, seeing both puts, goes on with its own version
abbrev pub two_ways : List Entry
two_ways =
    two_puts ++ puts (1, 3) ((1, 2) ∷ (2, 1) ∷ []) ((1, 2) ∷ []) (red ∷ [])
    ∷ puts (2, 2) ((1, 2) ∷ (2, 1) ∷ []) ((2, 1) ∷ []) (line 3 ∷ []) ∷ []

-- five sites put x or y, each seeing the creation alone
abbrev pub five_puts : List Entry
five_puts =
    Join 1 ∷ rectangle [] ∷ Join 2 ∷ Join 3 ∷ Join 4 ∷ Join 5
    ∷ puts (1, 2) creation_alone [] (x 1 ∷ []) ∷ puts (2, 1) creation_alone [] (y 2 ∷ [])
    ∷ puts (3, 1) creation_alone [] (x 7 ∷ []) ∷ puts (4, 1) creation_alone [] (y 8 ∷ [])
    ∷ puts (5, 1) creation_alone [] (x 9 ∷ []) ∷ []

-- both sites put x = 5
abbrev pub same_value_twice : List Entry
same_value_twice = one_put ++ puts (2, 1) creation_alone [] (x 5 ∷ []) ∷ []

-- the first site puts x once more, and the second puts the value that x had
abbrev pub value_replaced : List Entry
value_replaced =
    one_put ++ puts (1, 3) ((1, 2) ∷ []) [] (x 6 ∷ []) ∷ puts (2, 1) creation_alone [] (x 5 ∷ [])
    ∷ []

-- the third site has seen one of the two conflicting puts, and builds on it
abbrev pub seen_by_one : List Entry
seen_by_one = three_sites ++ puts (3, 1) ((1, 2) ∷ []) [] (red ∷ []) ∷ []

-- the first site's second put is based on its first, with which the second site's put conflicts
abbrev pub based_before : List Entry
based_before =
    one_put ++ puts (1, 3) ((1, 2) ∷ []) [] (red ∷ []) ∷ puts (2, 1) creation_alone [] (x 9 ∷ [])
    ∷ []

-- the second site's second put is based on its first, which conflicts with the first site's put
abbrev pub based_after : List Entry
based_after = two_puts ++ puts (2, 2) ((1, 1) ∷ (2, 1) ∷ []) [] (line 3 ∷ []) ∷ []

-- ---- puts of several attributes

-- the second site, which has not seen the put x = 5, puts x = 5 and fill = red
abbrev pub same_value_and_more : List Entry
same_value_and_more = one_put ++ puts (2, 1) creation_alone [] (x 5 ∷ red ∷ []) ∷ []

-- or fill = red and x = 9
abbrev pub other_value_and_more : List Entry
other_value_and_more = one_put ++ puts (2, 1) creation_alone [] (red ∷ x 9 ∷ []) ∷ []

-- ---- drops

-- the second site, which has seen the put x = 5, drops the version
abbrev pub one_drop : List Entry
one_drop = one_put ++ drops (2, 1) ((1, 2) ∷ []) [] ∷ []

-- the first site, which has not seen the drop, puts x = 6
abbrev pub put_beside_a_drop : List Entry
put_beside_a_drop = one_drop ++ puts (1, 3) ((1, 2) ∷ []) [] (x 6 ∷ []) ∷ []

-- or drops the version too
abbrev pub two_drops : List Entry
two_drops = one_drop ++ drops (1, 3) ((1, 2) ∷ []) [] ∷ []

-- the first site, which sees the two versions of two puts, drops its own
abbrev pub one_of_two_dropped : List Entry
one_of_two_dropped = two_puts ++ drops (1, 3) ((1, 2) ∷ (2, 1) ∷ []) ((1, 2) ∷ []) ∷ []

-- and the second, which hasn't seen that, drops the other one
abbrev pub both_dropped : List Entry
both_dropped = one_of_two_dropped ++ drops (2, 2) ((1, 2) ∷ (2, 1) ∷ []) ((2, 1) ∷ []) ∷ []

-- ---- an end

-- the room goes on with two entries in another
abbrev pub ended : List Entry
ended = one_put ++ Next 2 ∷ []
