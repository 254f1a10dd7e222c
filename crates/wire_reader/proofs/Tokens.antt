-- How values are read from tokens, one after another.
use Rattle.std.proofs.Common.{◌≡◌, ℕ, zero, suc, ◌-◌, ◌<◌, ◌≤◌, List, [], ◌∷◌, ◌++◌, map, drop, length, append_assoc, Float, ◌^◌, ◌==◌, ◌&&◌, nat_lt, nat_le, Bool, true, false, cond, bytes_eq, Option, Some, None, Result, Ok, Err, option_map, option_and_then, refl, sym, ap, ◌∙◌, arith, lt-ltb}
use Rattle.json.specs.Token.{Token}
use Rattle.json.specs.Json as json
use Rattle.json.specs.Json.{parse_map, after_end_array, items_step, items, members, value, if_last}
use Rattle.json.specs.Lex.{tokens}
use Rattle.json.proofs.Grammar.{left, value_is, value-begin_array, value-begin_object, skip_value-shorter, items_end, items_more, items_fail}
use Rattle.serde_json.specs.Data as of_data
use Rattle.serde_json.specs.Data.{Num, unsigned, negative, float, Data, null, boolean, number, string, array, object, Items, no_items, item, Members, no_members}
use Rattle.serde_json.specs.Find.{as_str, as_number, as_u64}
use Rattle.serde_json.specs.Read.{number_of, float_of, is_integer, of_json, of_items, of_members, converted, read, max_depth}
use Rattle.std.specs.Prelude.{⊤, SomeIff, slice_index, FitsSigned, ℤ, pos, negsuc}
use Rattle.std.specs.Int.{w64}
use Rattle.std.specs.Float.{binary64, float_is_finite}
use Rattle.std.proofs.lemmas.Bool.Decides.{nat_tests}
use Rattle.fast_float.specs.Text.{Parts, scan, digits_of, nearest, with_sign, IsInteger}
use Rattle.std.specs.Prelude.{IsUtf8}
use Rattle.std.specs.Str.{is_utf8}
use Rattle.std.proofs.lemmas.Str.{IsUtf8-from_is_utf8}
use Rattle.std.proofs.lemmas.Slice.Eq.{bytes_eq-Decides}
use Rattle.wire_reader.specs.steps.Reads.{json_of, text_in}
use Rattle.std.specs.Result.{IsErrAnd}
use Rattle.base_types.specs.declared.value.Value.TheVariants.{Number}
use Rattle.wire_reader.specs.declared.fault.ReadFault.{ReadFault}
use Rattle.wire_reader.specs.declared.fault.ReadFault.TheVariants.{Bad, NoMemory}
use Rattle.wire_reader.specs.steps.Reading.{◌>>=◌, Fails, Gives, listed, items_in, passing, integer_at, integer_in, value_in, two_at, two_in, all_in, list_in, end_at, field_at, worded_at, worded_in, Words, WordReader, by_word, worded_message_in}
use Rattle.wire_reader.specs.steps.Streams.{next_in, rest_in, list_opened, string_of, numeral_of, value_of, below_zero, worded, begins_list, fronted, rest_by_word, Takes}

-- ---- what was converted

-- what is read, with the tokens after it
abbrev pub leaving : {X : Type 0} → List Token → Option X → Option (X × List Token)
leaving r o = option_map (λ x. (x, r)) o

abbrev pick : {A : Type 0} → A → Option A → A
pick a None = a
pick a (Some b) = b

mapped_some : {B : Type 0} (o : Option B) (s r : List Token) (b : B) → leaving s o ≡ Some (b, r) → (o ≡ Some b) × (s ≡ r)
mapped_some None s r b e = absurd cc
mapped_some (Some x) s r b e = let same = ap (pick (b, r)) e in (ap (λ p. Some p.0) same, ap (λ p. p.1) same)

mapped_none : {B : Type 0} (o : Option B) (s : List Token) → leaving s o ≡ None → o ≡ None
mapped_none None s e = refl
mapped_none (Some x) s e = absurd cc

converted_some : {A B : Type 0} (f : A → Option B) (o : Option (A × List Token)) (b : B) (r : List Token) → converted f o ≡ Some (b, r) → (a : A) × (o ≡ Some (a, r)) × (f a ≡ Some b)
converted_some f None b r e = absurd cc
converted_some f (Some p) b r e = let m = mapped_some (f p.0) p.1 r b e in (p.0, ap (λ s. Some (p.0, s)) m.1, m.0)

-- ---- the items of a list

seen_item : {Y : Type 0} (f : List Data → Option Y) (d : Data) (r : List Token) (o : Option Items)
    → converted (λ is. f (listed is)) (leaving r (option_map (item d) o)) ≡ converted (λ is. f (d ∷ listed is)) (leaving r o)
seen_item f d r None = refl
seen_item f d r (Some is) = refl

with_item : {Y : Type 0} (f : List Data → Option Y) (j : json.Json) (d : Data) → of_json j ≡ Some d → (o : Option (json.Items × List Token))
    → converted (λ is. f (listed is)) (converted of_items (parse_map (json.item j) o)) ≡ converted (λ is. f (d ∷ listed is)) (converted of_items o)
with_item f j d e None = refl
with_item f j d e (Some p) = rw e (seen_item f d p.1 (of_items p.0))

without_item : {Y : Type 0} (f : List Data → Option Y) (j : json.Json) → of_json j ≡ None → (o : Option (json.Items × List Token)) → converted (λ is. f (listed is)) (converted of_items (parse_map (json.item j) o)) ≡ None
without_item f j e None = refl
without_item f j e (Some p) = rw e refl

seen_array : {Y : Type 0} (g : Data → Option Y) (r : List Token) (o : Option Items) → converted g (leaving r (option_map array o)) ≡ converted (λ is. g (array is)) (leaving r o)
seen_array g r None = refl
seen_array g r (Some is) = refl

of_array : {Y : Type 0} (g : Data → Option Y) (o : Option (json.Items × List Token)) → converted g (converted of_json (parse_map json.array o)) ≡ converted (λ is. g (array is)) (converted of_items o)
of_array g None = refl
of_array g (Some p) = seen_array g p.1 (of_items p.0)

-- ---- the grammar

abbrev Shortens : json.Parse json.Json → Type 0
Shortens p = (ts : List Token) (j : json.Json) (r : List Token) → p ts ≡ Some (j, r) → length r < length ts

value_shortens : (n : ℕ) → Shortens (value n)
value_shortens n ts j r e = skip_value-shorter n ts r (ap left e)

nothing_of_none : (p : json.Parse json.Json) → Shortens p → (o : Option (json.Json × List Token)) → p [] ≡ o → o ≡ None
nothing_of_none p shortens None e = refl
nothing_of_none p shortens (Some q) e = let less : length q.1 < 0 = shortens [] q.0 q.1 e in absurd (omega arith)

one_turn : (p : json.Parse json.Json) → Shortens p → (m n : ℕ) → ((us : List Token) → length us ≤ m → length us ≤ n → items p m us ≡ items p n us) → (ts : List Token) → length ts ≤ suc m → length ts ≤ suc n
    → (o : Option (List Token)) (v : Option (json.Json × List Token)) → p ts ≡ v → items_step p (items p m) ts o ≡ items_step p (items p n) ts o
one_turn p shortens m n again ts le lf (Some r) v e = refl
one_turn p shortens m n again ts le lf None None e = ap (option_and_then (λ q. parse_map (json.item q.0) (items p m q.1))) e ∙ sym (ap (option_and_then (λ q. parse_map (json.item q.0) (items p n q.1))) e)
one_turn p shortens m n again ts le lf None (Some q) e =
    let less : length q.1 < length ts = shortens ts q.0 q.1 e in
    ap (option_and_then (λ q. parse_map (json.item q.0) (items p m q.1))) e ∙ ap (parse_map (json.item q.0)) (again q.1 (omega arith) (omega arith)) ∙ sym (ap (option_and_then (λ q. parse_map (json.item q.0) (items p n q.1))) e)

-- enough turns give what more turns give
turns : (p : json.Parse json.Json) → Shortens p → (m n : ℕ) (ts : List Token) → length ts ≤ m → length ts ≤ n → items p m ts ≡ items p n ts
unfolding items
turns p shortens zero zero ts le lf = refl
turns p shortens zero (suc n) [] le lf = sym (ap (option_and_then (λ q. parse_map (json.item q.0) (items p n q.1))) (nothing_of_none p shortens (p []) refl))
turns p shortens zero (suc n) (t ∷ ts) le lf = absurd (omega arith)
turns p shortens (suc m) zero [] le lf = ap (option_and_then (λ q. parse_map (json.item q.0) (items p m q.1))) (nothing_of_none p shortens (p []) refl)
turns p shortens (suc m) zero (t ∷ ts) le lf = absurd (omega arith)
turns p shortens (suc m) (suc n) ts le lf = one_turn p shortens m n (turns p shortens m n) ts le lf (after_end_array ts) (p ts) refl

not_at_end : (n : ℕ) (ts : List Token) (j : json.Json) (r : List Token) → value n ts ≡ Some (j, r) → after_end_array ts ≡ None
not_at_end n [] j r e = refl
not_at_end n (Token.begin_object ∷ ts) j r e = refl
not_at_end n (Token.end_object ∷ ts) j r e = refl
not_at_end n (Token.begin_array ∷ ts) j r e = refl
not_at_end n (Token.end_array ∷ ts) j r e = let none = value_is n (Token.end_array ∷ ts) in absurd cc
not_at_end n (Token.key s ∷ ts) j r e = refl
not_at_end n (Token.string s ∷ ts) j r e = refl
not_at_end n (Token.number s ∷ ts) j r e = refl
not_at_end n (Token.boolean b ∷ ts) j r e = refl
not_at_end n (Token.null ∷ ts) j r e = refl
not_at_end n (Token.bad ∷ ts) j r e = refl

-- ---- the rest of a list

-- a value comes next
one_value : {Y : Type 0} (f : List Data → Option Y) (n : ℕ) (ts mid : List Token) (d : Data) → converted of_json (value n ts) ≡ Some (d, mid) → rest_in f n ts ≡ rest_in (λ ds. f (d ∷ ds)) n mid
unfolding rest_in
one_value f n ts mid d e =
    let j = converted_some of_json (value n ts) d mid e in
    let less : length mid < length ts = value_shortens n ts j.0 mid j.1 in
    let more = items_more (value n) (length ts) ts mid j.0 (omega arith) (not_at_end n ts j.0 mid j.1) j.1 in
    let same = turns (value n) (value_shortens n) (length ts - 1) (length mid) mid (omega arith) (omega arith) in
    ap (λ o. converted (λ is. f (listed is)) (converted of_items o)) (more ∙ ap (parse_map (json.item j.0)) same) ∙ with_item f j.0 d j.2 (items (value n) (length mid) mid)

-- no value comes next, and no end
no_value_by : {Y : Type 0} (f : List Data → Option Y) (n : ℕ) (ts : List Token) (v : Option (json.Json × List Token)) → after_end_array ts ≡ None → value n ts ≡ v → converted of_json v ≡ None → rest_in f n ts ≡ None
unfolding rest_in
no_value_by f n ts None going is none = ap (λ o. converted (λ is. f (listed is)) (converted of_items o)) (items_fail (value n) (length ts) ts going is)
no_value_by f n ts (Some p) going is none =
    let less : length p.1 < length ts = value_shortens n ts p.0 p.1 is in
    let more = items_more (value n) (length ts) ts p.1 p.0 (omega arith) going is in
    ap (λ o. converted (λ is. f (listed is)) (converted of_items o)) more ∙ without_item f p.0 (mapped_none (of_json p.0) p.1 none) (items (value n) (length ts - 1) p.1)

no_value : {Y : Type 0} (f : List Data → Option Y) (n : ℕ) (ts : List Token) → after_end_array ts ≡ None → converted of_json (value n ts) ≡ None → rest_in f n ts ≡ None
no_value f n ts going none = no_value_by f n ts (value n ts) going refl none

-- the list ends
list_over : {Y : Type 0} (f : List Data → Option Y) (n : ℕ) (ts r : List Token) → after_end_array ts ≡ Some r → rest_in f n ts ≡ leaving r (f [])
unfolding rest_in
list_over f n ts r over = ap (λ o. converted (λ is. f (listed is)) (converted of_items o)) (items_end (value n) (length ts) ts r (omega arith) over)

-- nothing is read of the list where nothing is read of its first value, nor of no values
abbrev NeedsFirst : {X Y : Type 0} → (Data → Option X) → (List Data → Option Y) → Type 0
NeedsFirst first f = (d : Data) (ds : List Data) → first d ≡ None → f (d ∷ ds) ≡ None

none_each : {A Y : Type 0} (f : A → Option Y) → ((a : A) → f a ≡ None) → (o : Option (A × List Token)) → converted f o ≡ None
none_each f none None = refl
none_each f none (Some p) = ap (leaving p.1) (none p.0)

pub rest_none : {Y : Type 0} (f : List Data → Option Y) (n : ℕ) (ts : List Token) → ((ds : List Data) → f ds ≡ None) → rest_in f n ts ≡ None
unfolding rest_in
rest_none f n ts none = none_each (λ is. f (listed is)) (λ is. none (listed is)) (converted of_items (items (value n) (length ts) ts))

refused_by : {X Y : Type 0} (first : Data → Option X) (f : List Data → Option Y) → NeedsFirst first f → (n : ℕ) (ts : List Token) (v : Option (Data × List Token)) → after_end_array ts ≡ None → converted of_json (value n ts) ≡ v
    → converted first v ≡ None → rest_in f n ts ≡ None
refused_by first f needs n ts None going is none = no_value f n ts going is
refused_by first f needs n ts (Some p) going is none =
    one_value f n ts p.1 p.0 is ∙ rest_none (λ ds. f (p.0 ∷ ds)) n p.1 (λ ds. needs p.0 ds (mapped_none (first p.0) p.1 none))

-- the next value is refused, and so is the list
refused_going : {X Y : Type 0} (first : Data → Option X) (f : List Data → Option Y) → NeedsFirst first f → (n : ℕ) (ts : List Token) → after_end_array ts ≡ None → next_in first n ts ≡ None → rest_in f n ts ≡ None
unfolding next_in
refused_going first f needs n ts going none = refused_by first f needs n ts (converted of_json (value n ts)) going refl none

refused_at : {X Y : Type 0} (first : Data → Option X) (f : List Data → Option Y) → NeedsFirst first f → f [] ≡ None → (n : ℕ) (ts : List Token) (o : Option (List Token)) → after_end_array ts ≡ o → next_in first n ts ≡ None
    → rest_in f n ts ≡ None
refused_at first f needs empty n ts (Some r) over none = list_over f n ts r over ∙ ap (leaving r) empty
refused_at first f needs empty n ts None going none = refused_going first f needs n ts going none

-- ---- fields

none_before : {X Y : Type 0} (o : Option X) (f : X → Option Y) → o ≡ None → (o >>= f) ≡ None
none_before None f e = refl
none_before (Some x) f e = absurd cc

pub field_bad : {X Y : Type 0} (first : Data → Option X) (others : List Data → Option Y) (n : ℕ) (ts : List Token) → next_in first n ts ≡ None → rest_in (field_at first others) n ts ≡ None
field_bad first others n ts none =
    refused_at first (field_at first others) (λ d ds e. none_before (first d) (λ x. others ds >>= λ y. Some (x, y)) e) refl n ts (after_end_array ts) refl none

paired : {X Y : Type 0} (x : X) (r : List Token) (o : Option Y) → leaving {X = X × Y} r (o >>= λ y. Some (x, y)) ≡ (leaving r o >>= λ q. Some ((x, q.0), q.1))
paired x r None = refl
paired x r (Some y) = refl

field_then : {A X Y : Type 0} (o : Option X) (x : X) (others : A → Option Y) (rest : Option (A × List Token)) → o ≡ Some x
    → converted {B = X × Y} (λ a. o >>= λ x. others a >>= λ y. Some (x, y)) rest ≡ (converted others rest >>= λ q. Some ((x, q.0), q.1))
field_then None x others rest e = absurd cc
field_then (Some w) x others None e = refl
field_then (Some w) x others (Some p) e = let same : w ≡ x = cc in rw same (paired x p.1 (others p.0))

pub field_ok : {X Y : Type 0} (first : Data → Option X) (others : List Data → Option Y) (n : ℕ) (ts mid : List Token) (x : X) → next_in first n ts ≡ Some (x, mid)
    → rest_in (field_at first others) n ts ≡ (rest_in others n mid >>= λ q. Some ((x, q.0), q.1))
unfolding next_in rest_in
field_ok first others n ts mid x e =
    let d = converted_some first (converted of_json (value n ts)) x mid e in
    one_value (field_at first others) n ts mid d.0 d.1 ∙ field_then (first d.0) x (λ is. others (listed is)) (converted of_items (items (value n) (length mid) mid)) d.2

pub end_ok : (n : ℕ) (ts r : List Token) → after_end_array ts ≡ Some r → rest_in end_at n ts ≡ Some (tt, r)
end_ok n ts r over = list_over end_at n ts r over

end_by : (n : ℕ) (ts : List Token) (v : Option (Data × List Token)) → after_end_array ts ≡ None → converted of_json (value n ts) ≡ v → rest_in end_at n ts ≡ None
end_by n ts None going is = no_value end_at n ts going is
end_by n ts (Some p) going is = one_value end_at n ts p.1 p.0 is ∙ rest_none (λ ds. end_at (p.0 ∷ ds)) n p.1 (λ ds. refl)

pub end_bad : (n : ℕ) (ts : List Token) → after_end_array ts ≡ None → rest_in end_at n ts ≡ None
end_bad n ts going = end_by n ts (converted of_json (value n ts)) going refl

-- ---- the parts of a list

pub all_over : {X : Type 0} (reader : Data → Option X) (n : ℕ) (ts r : List Token) → after_end_array ts ≡ Some r → rest_in (all_in reader) n ts ≡ Some ([], r)
unfolding all_in
all_over reader n ts r over = list_over (all_in reader) n ts r over

pub all_bad : {X : Type 0} (reader : Data → Option X) (n : ℕ) (ts : List Token) → after_end_array ts ≡ None → next_in reader n ts ≡ None → rest_in (all_in reader) n ts ≡ None
unfolding all_in
all_bad reader n ts going none =
    refused_going reader (all_in reader) (λ d ds e. none_before (reader d) (λ x. all_in reader ds >>= λ xs. Some (x ∷ xs)) e) n ts going none

listed_then : {X : Type 0} (x : X) (r : List Token) (o : Option (List X)) → leaving r (o >>= λ xs. Some (x ∷ xs)) ≡ (leaving r o >>= λ q. Some (x ∷ q.0, q.1))
listed_then x r None = refl
listed_then x r (Some xs) = refl

part_then : {A X : Type 0} (o : Option X) (x : X) (others : A → Option (List X)) (rest : Option (A × List Token)) → o ≡ Some x
    → converted (λ a. o >>= λ x. others a >>= λ xs. Some (x ∷ xs)) rest ≡ (converted others rest >>= λ q. Some (x ∷ q.0, q.1))
part_then None x others rest e = absurd cc
part_then (Some w) x others None e = refl
part_then (Some w) x others (Some p) e = let same : w ≡ x = cc in rw same (listed_then x p.1 (others p.0))

pub all_next : {X : Type 0} (reader : Data → Option X) (n : ℕ) (ts mid : List Token) (x : X) → next_in reader n ts ≡ Some (x, mid)
    → rest_in (all_in reader) n ts ≡ (rest_in (all_in reader) n mid >>= λ q. Some (x ∷ q.0, q.1))
unfolding next_in rest_in all_in
all_next reader n ts mid x e =
    let d = converted_some reader (converted of_json (value n ts)) x mid e in
    one_value (all_in reader) n ts mid d.0 d.1 ∙ part_then (reader d.0) x (λ is. all_in reader (listed is)) (converted of_items (items (value n) (length mid) mid)) d.2

-- a part shortens what is left
pub part_shortens : {X : Type 0} (reader : Data → Option X) (n : ℕ) (ts mid : List Token) (x : X) → next_in reader n ts ≡ Some (x, mid) → length mid < length ts
unfolding next_in
part_shortens reader n ts mid x e =
    let d = converted_some reader (converted of_json (value n ts)) x mid e in
    let j = converted_some of_json (value n ts) d.0 mid d.1 in
    value_shortens n ts j.0 mid j.1

-- ---- what is made of what is read

then_mapped : {X Y : Type 0} (o : Option X) (g : X → Option Y) (r : List Token) → leaving r (o >>= g) ≡ (leaving r o >>= λ q. leaving q.1 (g q.0))
then_mapped None g r = refl
then_mapped (Some x) g r = refl

then_converted : {A X Y : Type 0} (f : A → Option X) (g : X → Option Y) (o : Option (A × List Token)) → converted (λ a. f a >>= g) o ≡ (converted f o >>= λ q. leaving q.1 (g q.0))
then_converted f g None = refl
then_converted f g (Some p) = then_mapped (f p.0) g p.1

pub rest_then : {X Y : Type 0} (f : List Data → Option X) (g : X → Option Y) (n : ℕ) (ts : List Token) → rest_in (λ ds. f ds >>= g) n ts ≡ (rest_in f n ts >>= λ q. leaving q.1 (g q.0))
unfolding rest_in
rest_then f g n ts = then_converted (λ is. f (listed is)) g (converted of_items (items (value n) (length ts) ts))

pub next_then : {X Y : Type 0} (f : Data → Option X) (g : X → Option Y) (n : ℕ) (ts : List Token) → next_in (λ d. f d >>= g) n ts ≡ (next_in f n ts >>= λ q. leaving q.1 (g q.0))
unfolding next_in
next_then f g n ts = then_converted f g (converted of_json (value n ts))

-- ---- lists

pub list_ok : {Y : Type 0} (f : List Data → Option Y) (n : ℕ) (ts r : List Token) → 0 < n → list_opened ts ≡ Some r → next_in (λ d. items_in d >>= f) n ts ≡ rest_in f (n - 1) r
unfolding next_in rest_in items_in
list_ok f n (Token.begin_array ∷ ts) r deep e =
    let same : ts ≡ r = cc in
    let lists = λ (us : List Token). converted (λ is. f (listed is)) (converted of_items (items (value (n - 1)) (length us) us)) in
    ap (λ o. converted (λ d. items_in d >>= f) (converted of_json o)) (value-begin_array n ts deep) ∙ of_array (λ d. items_in d >>= f) (items (value (n - 1)) (length ts) ts) ∙ ap lists same
list_ok f n [] r deep e = absurd cc
list_ok f n (Token.begin_object ∷ ts) r deep e = absurd cc
list_ok f n (Token.end_object ∷ ts) r deep e = absurd cc
list_ok f n (Token.end_array ∷ ts) r deep e = absurd cc
list_ok f n (Token.key s ∷ ts) r deep e = absurd cc
list_ok f n (Token.string s ∷ ts) r deep e = absurd cc
list_ok f n (Token.number s ∷ ts) r deep e = absurd cc
list_ok f n (Token.boolean b ∷ ts) r deep e = absurd cc
list_ok f n (Token.null ∷ ts) r deep e = absurd cc
list_ok f n (Token.bad ∷ ts) r deep e = absurd cc

seen_object : {Y : Type 0} (g : Data → Option Y) → ((ms : Members) → g (object ms) ≡ None) → (r : List Token) (o : Option Members) → converted g (leaving r (option_map object o)) ≡ None
seen_object g none r None = refl
seen_object g none r (Some ms) = ap (leaving r) (none ms)

seen_number : {Y : Type 0} (g : Data → Option Y) → ((x : Num) → g (number x) ≡ None) → (r : List Token) (o : Option Num) → converted g (leaving r (option_map number o)) ≡ None
seen_number g none r None = refl
seen_number g none r (Some x) = ap (leaving r) (none x)

of_list : {Y : Type 0} (g : Data → Option Y) → ((is : Items) → g (array is) ≡ None) → (o : Option (json.Items × List Token)) → converted g (converted of_json (parse_map json.array o)) ≡ None
of_list g none o = of_array g o ∙ none_each (λ is. g (array is)) none (converted of_items o)

-- nothing is read of what is no list
record IsOfLists {Y : Type 0} (g : Data → Option Y) : Type 0 where
  null : g of_data.null ≡ None
  boolean : (b : Bool) → g (of_data.boolean b) ≡ None
  number : (x : Num) → g (of_data.number x) ≡ None
  string : (s : List ℕ) → g (of_data.string s) ≡ None
  object : (ms : Members) → g (of_data.object ms) ≡ None

of_object : {Y : Type 0} (g : Data → Option Y) → ((ms : Members) → g (object ms) ≡ None) → (o : Option (json.Members × List Token)) → converted g (converted of_json (parse_map json.object o)) ≡ None
of_object g none None = refl
of_object g none (Some p) = seen_object g none p.1 (of_members p.0 no_members)

at_object : (n : ℕ) (ts : List Token) → (o : Option (json.Members × List Token)) × (value n (Token.begin_object ∷ ts) ≡ parse_map json.object o)
at_object zero ts = (None, value_is zero (Token.begin_object ∷ ts))
at_object (suc n) ts = (members (value (suc n - 1)) (length ts) ts, value-begin_object (suc n) ts (omega arith))

at_array : (n : ℕ) (ts : List Token) → (o : Option (json.Items × List Token)) × (value n (Token.begin_array ∷ ts) ≡ parse_map json.array o)
at_array zero ts = (None, value_is zero (Token.begin_array ∷ ts))
at_array (suc n) ts = (items (value (suc n - 1)) (length ts) ts, value-begin_array (suc n) ts (omega arith))

-- at a token that opens no list, what reads lists reads nothing
no_list : {Y : Type 0} (g : Data → Option Y) → IsOfLists g → (n : ℕ) (ts : List Token) → list_opened ts ≡ None → next_in g n ts ≡ None
unfolding next_in
no_list g lists n [] none = ap (λ o. converted g (converted of_json o)) (value_is n [])
no_list g lists n (Token.begin_object ∷ ts) none = ap (λ o. converted g (converted of_json o)) (at_object n ts).1 ∙ of_object g lists.object (at_object n ts).0
no_list g lists n (Token.end_object ∷ ts) none = ap (λ o. converted g (converted of_json o)) (value_is n (Token.end_object ∷ ts))
no_list g lists n (Token.begin_array ∷ ts) none = absurd cc
no_list g lists n (Token.end_array ∷ ts) none = ap (λ o. converted g (converted of_json o)) (value_is n (Token.end_array ∷ ts))
no_list g lists n (Token.key s ∷ ts) none = ap (λ o. converted g (converted of_json o)) (value_is n (Token.key s ∷ ts))
no_list g lists n (Token.string s ∷ ts) none = ap (λ o. converted g (converted of_json o)) (value_is n (Token.string s ∷ ts)) ∙ ap (leaving ts) (lists.string s)
no_list g lists n (Token.number s ∷ ts) none = ap (λ o. converted g (converted of_json o)) (value_is n (Token.number s ∷ ts)) ∙ seen_number g lists.number ts (number_of s)
no_list g lists n (Token.boolean b ∷ ts) none = ap (λ o. converted g (converted of_json o)) (value_is n (Token.boolean b ∷ ts)) ∙ ap (leaving ts) (lists.boolean b)
no_list g lists n (Token.null ∷ ts) none = ap (λ o. converted g (converted of_json o)) (value_is n (Token.null ∷ ts)) ∙ ap (leaving ts) lists.null
no_list g lists n (Token.bad ∷ ts) none = ap (λ o. converted g (converted of_json o)) (value_is n (Token.bad ∷ ts))

pub list_bad : {Y : Type 0} (f : List Data → Option Y) (n : ℕ) (ts : List Token) → list_opened ts ≡ None → next_in (λ d. items_in d >>= f) n ts ≡ None
unfolding items_in
list_bad f n ts none = no_list (λ d. items_in d >>= f) (record { null = refl; boolean = λ b. refl; number = λ x. refl; string = λ s. refl; object = λ ms. refl }) n ts none

-- ---- texts and numbers

-- at a string
pub next_string : (n : ℕ) (t : Token) (ts : List Token) → next_in as_str n (t ∷ ts) ≡ leaving ts (string_of t)
unfolding next_in
next_string n Token.begin_object ts = ap (λ o. converted as_str (converted of_json o)) (at_object n ts).1 ∙ of_object as_str (λ ms. refl) (at_object n ts).0
next_string n Token.end_object ts = ap (λ o. converted as_str (converted of_json o)) (value_is n (Token.end_object ∷ ts))
next_string n Token.begin_array ts = ap (λ o. converted as_str (converted of_json o)) (at_array n ts).1 ∙ of_list as_str (λ is. refl) (at_array n ts).0
next_string n Token.end_array ts = ap (λ o. converted as_str (converted of_json o)) (value_is n (Token.end_array ∷ ts))
next_string n (Token.key s) ts = ap (λ o. converted as_str (converted of_json o)) (value_is n (Token.key s ∷ ts))
next_string n (Token.string s) ts = ap (λ o. converted as_str (converted of_json o)) (value_is n (Token.string s ∷ ts))
next_string n (Token.number s) ts = ap (λ o. converted as_str (converted of_json o)) (value_is n (Token.number s ∷ ts)) ∙ seen_number as_str (λ x. refl) ts (number_of s)
next_string n (Token.boolean b) ts = ap (λ o. converted as_str (converted of_json o)) (value_is n (Token.boolean b ∷ ts))
next_string n Token.null ts = ap (λ o. converted as_str (converted of_json o)) (value_is n (Token.null ∷ ts))
next_string n Token.bad ts = ap (λ o. converted as_str (converted of_json o)) (value_is n (Token.bad ∷ ts))

pub next_string_none : (n : ℕ) → next_in as_str n [] ≡ None
unfolding next_in
next_string_none n = ap (λ o. converted as_str (converted of_json o)) (value_is n [])

seen_numeral : {Y : Type 0} (g : Num → Option Y) (r : List Token) (o : Option Num) → converted (λ d. option_and_then g (as_number d)) (leaving r (option_map number o)) ≡ leaving r (option_and_then g o)
seen_numeral g r None = refl
seen_numeral g r (Some x) = refl

-- at a number
pub next_number : {Y : Type 0} (g : Num → Option Y) (n : ℕ) (t : Token) (ts : List Token) → next_in (λ d. option_and_then g (as_number d)) n (t ∷ ts) ≡ leaving ts (numeral_of t >>= λ s. option_and_then g (number_of s))
unfolding next_in
next_number g n Token.begin_object ts = ap (λ o. converted (λ d. option_and_then g (as_number d)) (converted of_json o)) (at_object n ts).1 ∙ of_object (λ d. option_and_then g (as_number d)) (λ ms. refl) (at_object n ts).0
next_number g n Token.end_object ts = ap (λ o. converted (λ d. option_and_then g (as_number d)) (converted of_json o)) (value_is n (Token.end_object ∷ ts))
next_number g n Token.begin_array ts = ap (λ o. converted (λ d. option_and_then g (as_number d)) (converted of_json o)) (at_array n ts).1 ∙ of_list (λ d. option_and_then g (as_number d)) (λ is. refl) (at_array n ts).0
next_number g n Token.end_array ts = ap (λ o. converted (λ d. option_and_then g (as_number d)) (converted of_json o)) (value_is n (Token.end_array ∷ ts))
next_number g n (Token.key s) ts = ap (λ o. converted (λ d. option_and_then g (as_number d)) (converted of_json o)) (value_is n (Token.key s ∷ ts))
next_number g n (Token.string s) ts = ap (λ o. converted (λ d. option_and_then g (as_number d)) (converted of_json o)) (value_is n (Token.string s ∷ ts))
next_number g n (Token.number s) ts = ap (λ o. converted (λ d. option_and_then g (as_number d)) (converted of_json o)) (value_is n (Token.number s ∷ ts)) ∙ seen_numeral g ts (number_of s)
next_number g n (Token.boolean b) ts = ap (λ o. converted (λ d. option_and_then g (as_number d)) (converted of_json o)) (value_is n (Token.boolean b ∷ ts))
next_number g n Token.null ts = ap (λ o. converted (λ d. option_and_then g (as_number d)) (converted of_json o)) (value_is n (Token.null ∷ ts))
next_number g n Token.bad ts = ap (λ o. converted (λ d. option_and_then g (as_number d)) (converted of_json o)) (value_is n (Token.bad ∷ ts))

pub next_number_none : {Y : Type 0} (g : Num → Option Y) (n : ℕ) → next_in (λ d. option_and_then g (as_number d)) n [] ≡ None
unfolding next_in
next_number_none g n = ap (λ o. converted (λ d. option_and_then g (as_number d)) (converted of_json o)) (value_is n [])

-- ---- steps

field_by : {X Y : Type 0} (first : Data → Option X) (others : List Data → Option Y) (n : ℕ) (ts : List Token) (o : Option (X × List Token)) → next_in first n ts ≡ o
    → rest_in (field_at first others) n ts ≡ (o >>= λ p. rest_in others n p.1 >>= λ q. Some ((p.0, q.0), q.1))
field_by first others n ts None e = field_bad first others n ts e
field_by first others n ts (Some p) e = field_ok first others n ts p.1 p.0 e

-- a field, and then the others
pub field_steps : {X Y : Type 0} (first : Data → Option X) (others : List Data → Option Y) (n : ℕ) (ts : List Token)
    → rest_in (field_at first others) n ts ≡ (next_in first n ts >>= λ p. rest_in others n p.1 >>= λ q. Some ((p.0, q.0), q.1))
field_steps first others n ts = field_by first others n ts (next_in first n ts) refl

ends_by : (n : ℕ) (ts : List Token) (o : Option (List Token)) → after_end_array ts ≡ o → rest_in end_at n ts ≡ (o >>= λ r. Some (tt, r))
ends_by n ts None e = end_bad n ts e
ends_by n ts (Some r) e = end_ok n ts r e

-- the end of the list
pub end_steps : (n : ℕ) (ts : List Token) → rest_in end_at n ts ≡ (after_end_array ts >>= λ r. Some (tt, r))
end_steps n ts = ends_by n ts (after_end_array ts) refl

list_by : {Y : Type 0} (f : List Data → Option Y) (n : ℕ) (ts : List Token) (o : Option (List Token)) → 0 < n → list_opened ts ≡ o → next_in (λ d. items_in d >>= f) n ts ≡ (o >>= rest_in f (n - 1))
list_by f n ts None deep e = list_bad f n ts e
list_by f n ts (Some r) deep e = list_ok f n ts r deep e

-- a list
pub list_steps : {Y : Type 0} (f : List Data → Option Y) (n : ℕ) (ts : List Token) → 0 < n → next_in (λ d. items_in d >>= f) n ts ≡ (list_opened ts >>= rest_in f (n - 1))
list_steps f n ts deep = list_by f n ts (list_opened ts) deep refl

-- ---- what a function returned

-- a step that failed leaves nothing of the whole, and its fault is that of the whole
pub failed : {X Y Z : Type 0} (view : X → Y) (r : Result X ReadFault) (e : ReadFault) (step : Option Z) (whole : Option (Y × List Token)) (left : List Token) → IsErrAnd r (λ f. f ≡ e) → Fails e step → (step ≡ None → whole ≡ None) → Takes view r whole left
failed view (Ok x) e step whole left is fails none = absurd is
failed view (Err NoMemory) e step whole left is fails none = tt
failed view (Err Bad) Bad step whole left is fails none = none fails
failed view (Err Bad) NoMemory step whole left is fails none = absurd cc

-- a string, or no string, at this token
pub string_here : (n : ℕ) (old new : List Token) (t : Token) (o : Option (List ℕ)) → old ≡ t ∷ new → o ≡ string_of t → next_in as_str n old ≡ leaving new o
string_here n old new t o is e = ap (next_in as_str n) is ∙ next_string n t new ∙ ap (leaving new) (sym e)

-- a step that gives what a function returned of what was read before
pub passed : {X Y : Type 0} (view : X → Y) (r : Result X ReadFault) (o : Option Y) (left : List Token) → Gives view r o → Takes view r (leaving left o) left
passed view (Ok x) o left given = ap (leaving left) given
passed view (Err NoMemory) o left given = tt
passed view (Err Bad) o left given = ap (leaving left) given

pub passing_steps : {X : Type 0} (test : X → Bool) (reader : Data → Option X) (n : ℕ) (ts : List Token)
    → next_in (passing test reader) n ts ≡ (next_in reader n ts >>= λ q. leaving q.1 (cond (test q.0) (Some q.0) None))
passing_steps test reader n ts = next_then reader (λ x. cond (test x) (Some x) None) n ts

-- a number, or no number, at this token
pub number_here : {Y : Type 0} (g : Num → Option Y) (n : ℕ) (old new : List Token) (t : Token) (o : Option Y) → old ≡ t ∷ new → o ≡ (numeral_of t >>= λ s. option_and_then g (number_of s))
    → next_in (λ d. option_and_then g (as_number d)) n old ≡ leaving new o
number_here g n old new t o is e = ap (next_in (λ d. option_and_then g (as_number d)) n) is ∙ next_number g n t new ∙ ap (leaving new) (sym e)

-- ---- functions that give the same

converted_same : {A Y : Type 0} (f g : A → Option Y) → ((a : A) → f a ≡ g a) → (o : Option (A × List Token)) → converted f o ≡ converted g o
converted_same f g same None = refl
converted_same f g same (Some p) = ap (leaving p.1) (same p.0)

rest_same : {Y : Type 0} (f g : List Data → Option Y) → ((ds : List Data) → f ds ≡ g ds) → (n : ℕ) (ts : List Token) → rest_in f n ts ≡ rest_in g n ts
unfolding rest_in
rest_same f g same n ts = converted_same (λ is. f (listed is)) (λ is. g (listed is)) (λ is. same (listed is)) (converted of_items (items (value n) (length ts) ts))

next_same : {Y : Type 0} (f g : Data → Option Y) → ((d : Data) → f d ≡ g d) → (n : ℕ) (ts : List Token) → next_in f n ts ≡ next_in g n ts
unfolding next_in
next_same f g same n ts = converted_same f g same (converted of_json (value n ts))

-- ---- lists of two, and lists of parts

abbrev both : {X Y : Type 0} → X → Y → X × Y
both x y = (x, y)

abbrev nothing : (A : Type 0) → Option A
nothing A = None

two_none : {X Y : Type 0} (x : Option X) → nothing (X × Y) ≡ ((x >>= λ a. nothing (Y × ⊤) >>= λ b. Some (both a b)) >>= λ p. Some (both p.0 p.1.0))
two_none None = refl
two_none (Some a) = refl

two_some : {X Y : Type 0} (x : Option X) (y : Option Y) (z : Option ⊤) → (x >>= λ a. y >>= λ b. z >>= λ _. Some (both a b)) ≡ ((x >>= λ a. (y >>= λ b. z >>= λ e. Some (both b e)) >>= λ b. Some (both a b)) >>= λ p. Some (both p.0 p.1.0))
two_some None y z = refl
two_some (Some a) None z = refl
two_some (Some a) (Some b) None = refl
two_some (Some a) (Some b) (Some e) = refl

both_none : {X Y Z : Type 0} (x : Option X) (y : Option Y) → nothing Z ≡ (x >>= λ a. y >>= λ b. nothing Z)
both_none None y = refl
both_none (Some a) None = refl
both_none (Some a) (Some b) = refl

two_fields : {X Y : Type 0} (first : Data → Option X) (second : Data → Option Y) (ds : List Data) → two_at first second ds ≡ (field_at first (field_at second end_at) ds >>= λ p. Some (both p.0 p.1.0))
unfolding two_at
two_fields first second [] = refl
two_fields first second (a ∷ []) = two_none (first a)
two_fields first second (a ∷ b ∷ []) = two_some (first a) (second b) (Some tt)
two_fields first second (a ∷ b ∷ c ∷ ds) = both_none (first a) (second b) ∙ two_some (first a) (second b) None

two_rest : {X Y : Type 0} (first : Data → Option X) (second : Data → Option Y) (n : ℕ) (o : Option (List Token))
    → (o >>= rest_in (two_at first second) n) ≡ (o >>= λ r. rest_in (field_at first (field_at second end_at)) n r >>= λ q. Some ((q.0.0, q.0.1.0), q.1))
two_rest first second n None = refl
two_rest first second n (Some r) =
    rest_same (two_at first second) (λ ds. field_at first (field_at second end_at) ds >>= λ p. Some (both p.0 p.1.0)) (two_fields first second) n r ∙ rest_then (field_at first (field_at second end_at)) (λ p. Some (both p.0 p.1.0)) n r

pub two_steps : {X Y : Type 0} (first : Data → Option X) (second : Data → Option Y) (n : ℕ) (ts : List Token) → 0 < n
    → next_in (two_in first second) n ts ≡ (list_opened ts >>= λ r. rest_in (field_at first (field_at second end_at)) (n - 1) r >>= λ q. Some ((q.0.0, q.0.1.0), q.1))
unfolding two_in
two_steps first second n ts deep = list_steps (two_at first second) n ts deep ∙ two_rest first second (n - 1) (list_opened ts)

pub all_steps : {X : Type 0} (reader : Data → Option X) (n : ℕ) (ts : List Token) → 0 < n → next_in (list_in reader) n ts ≡ (list_opened ts >>= rest_in (all_in reader) (n - 1))
unfolding list_in
all_steps reader n ts deep = list_steps (all_in reader) n ts deep

pub fronted_next : {X : Type 0} (front : List X) (x : X) (o : Option (List X × List Token)) → fronted front (o >>= λ q. Some (x ∷ q.0, q.1)) ≡ fronted (front ++ x ∷ []) o
fronted_next front x None = refl
fronted_next front x (Some p) = ap (λ xs. Some (xs, p.1)) (sym (append_assoc front (x ∷ []) p.0))

pub map_last : {X Y : Type 0} (f : X → Y) (xs : List X) (x : X) → map f (xs ++ x ∷ []) ≡ map f xs ++ f x ∷ []
map_last f [] x = refl
map_last f (y ∷ xs) x = ap (λ ys. f y ∷ ys) (map_last f xs x)

-- ---- words

one_word : {X : Type 0} (b : Bool) (f g : List Data → Option X) (other : Option (X × List Token)) (n : ℕ) (ts : List Token) → rest_in g n ts ≡ other → rest_in (λ ds. cond b (f ds) (g ds)) n ts ≡ cond b (rest_in f n ts) other
one_word true f g other n ts e = refl
one_word false f g other n ts e = e

pub words_steps : {X : Type 0} (words : Words X) (others : WordReader X) (word : List ℕ) (n : ℕ) (ts : List Token) → rest_in (by_word words others word) n ts ≡ rest_by_word words others word n ts
words_steps [] others word n ts = refl
words_steps (first ∷ words) others word n ts = one_word (bytes_eq word first.0) first.1 (by_word words others word) (rest_by_word words others word n ts) n ts (words_steps words others word n ts)

no_word : {X : Type 0} (words : Words X) (others : WordReader X) (d : Data) (ds : List Data) → as_str d ≡ None → (worded_at (d ∷ ds) >>= λ p. by_word words others p.0 p.1) ≡ None
no_word words others d ds none = none_before (as_str d >>= λ word. Some (word, ds)) (λ p. by_word words others p.0 p.1) (none_before (as_str d) (λ word. Some (word, ds)) none)

word_then : {A B X : Type 0} (o : Option (List ℕ)) (word : List ℕ) (view : A → B) (f : List ℕ → B → Option X) (rest : Option (A × List Token)) → o ≡ Some word
    → converted (λ a. (o >>= λ w. Some (both w (view a))) >>= λ p. f p.0 p.1) rest ≡ converted (λ a. f word (view a)) rest
word_then None word view f rest e = absurd cc
word_then (Some w) word view f rest e = let same : w ≡ word = cc in ap (λ v. converted (λ a. f v (view a)) rest) same

word_read : {X : Type 0} (words : Words X) (others : WordReader X) (n : ℕ) (ts mid : List Token) (word : List ℕ) → next_in as_str n ts ≡ Some (word, mid)
    → rest_in (λ ds. worded_at ds >>= λ p. by_word words others p.0 p.1) n ts ≡ rest_in (by_word words others word) n mid
unfolding next_in rest_in
word_read words others n ts mid word e =
    let d = converted_some as_str (converted of_json (value n ts)) word mid e in
    one_value (λ ds. worded_at ds >>= λ p. by_word words others p.0 p.1) n ts mid d.0 d.1
    ∙ word_then (as_str d.0) word listed (λ w ds. by_word words others w ds) (converted of_items (items (value n) (length mid) mid)) d.2

regrouped : {A B C : Type 0} (o : Option A) (f : A → Option B) (g : B → Option C) → ((o >>= f) >>= g) ≡ (o >>= λ a. f a >>= g)
regrouped None f g = refl
regrouped (Some a) f g = refl

word_by : {X : Type 0} (words : Words X) (others : WordReader X) (n : ℕ) (ts : List Token) (o : Option (List ℕ × List Token)) → next_in as_str n ts ≡ o
    → rest_in (λ ds. worded_at ds >>= λ p. by_word words others p.0 p.1) n ts ≡ (o >>= λ q. rest_by_word words others q.0 n q.1)
word_by words others n ts None e = refused_at as_str (λ ds. worded_at ds >>= λ p. by_word words others p.0 p.1) (λ d ds none. no_word words others d ds none) refl n ts (after_end_array ts) refl e
word_by words others n ts (Some p) e = word_read words others n ts p.1 p.0 e ∙ words_steps words others p.0 n p.1

word_after : {X : Type 0} (words : Words X) (others : WordReader X) (n : ℕ) (o : Option (List Token))
    → (o >>= rest_in (λ ds. worded_at ds >>= λ p. by_word words others p.0 p.1) n) ≡ ((o >>= next_in as_str n) >>= λ q. rest_by_word words others q.0 n q.1)
word_after words others n None = refl
word_after words others n (Some r) = word_by words others n r (next_in as_str n r) refl

-- a list of a word and what follows it
pub message_steps : {X : Type 0} (words : Words X) (others : WordReader X) (n : ℕ) (ts : List Token) → 0 < n → next_in (worded_message_in words others) n ts ≡ (worded (n - 1) ts >>= λ q. rest_by_word words others q.0 (n - 1) q.1)
unfolding worded_in
message_steps words others n ts deep =
    next_same (worded_message_in words others) (λ d. items_in d >>= λ ds. worded_at ds >>= λ p. by_word words others p.0 p.1) (λ d. regrouped (items_in d) worded_at (λ p. by_word words others p.0 p.1)) n ts
    ∙ list_steps (λ ds. worded_at ds >>= λ p. by_word words others p.0 p.1) n ts deep ∙ word_after words others (n - 1) (list_opened ts)

-- ---- values

seen_value : (r : List Token) (o : Option Num) → converted value_in (leaving r (option_map number o)) ≡ leaving r (option_and_then integer_at o >>= λ z. Some (Number z))
unfolding value_in integer_in
seen_value r None = refl
seen_value r (Some x) = refl

next_value : (n : ℕ) (t : Token) (ts : List Token) → next_in value_in n (t ∷ ts) ≡ leaving ts (value_of t)
unfolding next_in value_in integer_in
next_value n Token.begin_object ts = ap (λ o. converted value_in (converted of_json o)) (at_object n ts).1 ∙ of_object value_in (λ ms. refl) (at_object n ts).0
next_value n Token.end_object ts = ap (λ o. converted value_in (converted of_json o)) (value_is n (Token.end_object ∷ ts))
next_value n Token.begin_array ts = ap (λ o. converted value_in (converted of_json o)) (at_array n ts).1 ∙ of_list value_in (λ is. refl) (at_array n ts).0
next_value n Token.end_array ts = ap (λ o. converted value_in (converted of_json o)) (value_is n (Token.end_array ∷ ts))
next_value n (Token.key s) ts = ap (λ o. converted value_in (converted of_json o)) (value_is n (Token.key s ∷ ts))
next_value n (Token.string s) ts = ap (λ o. converted value_in (converted of_json o)) (value_is n (Token.string s ∷ ts))
next_value n (Token.number s) ts = ap (λ o. converted value_in (converted of_json o)) (value_is n (Token.number s ∷ ts)) ∙ seen_value ts (number_of s)
next_value n (Token.boolean b) ts = ap (λ o. converted value_in (converted of_json o)) (value_is n (Token.boolean b ∷ ts))
next_value n Token.null ts = ap (λ o. converted value_in (converted of_json o)) (value_is n (Token.null ∷ ts))
next_value n Token.bad ts = ap (λ o. converted value_in (converted of_json o)) (value_is n (Token.bad ∷ ts))

pub value_here : (n : ℕ) (old new : List Token) (t : Token) → old ≡ t ∷ new → next_in value_in n old ≡ leaving new (value_of t)
value_here n old new t is = ap (next_in value_in n) is ∙ next_value n t new

pub no_value_here : (n : ℕ) → next_in value_in n [] ≡ None
unfolding next_in
no_value_here n = ap (λ o. converted value_in (converted of_json o)) (value_is n [])

-- ---- the whole text

abbrev is_nil : List Token → Bool
is_nil [] = true
is_nil (t ∷ ts) = false

at_end : {X : Type 0} (reader : Data → Option X) (j : json.Json) (d : Data) (x : X) (left : List Token) → of_json j ≡ Some d → reader d ≡ Some x → (option_and_then of_json (if_last j left) >>= reader) ≡ cond (is_nil left) (Some x) None
at_end reader j d x [] e f = ap (λ o. o >>= reader) e ∙ f
at_end reader j d x (t ∷ ts) e f = refl

last_bad : {X : Type 0} (reader : Data → Option X) (j : json.Json) (left : List Token) → (of_json j >>= reader) ≡ None → (option_and_then of_json (if_last j left) >>= reader) ≡ None
last_bad reader j [] e = e
last_bad reader j (t ∷ ts) e = refl

not_so : {X : Type 0} (reader : Data → Option X) (j : json.Json) (left : List Token) (o : Option Data) → of_json j ≡ o → converted reader (leaving left o) ≡ None → (option_and_then of_json (if_last j left) >>= reader) ≡ None
not_so reader j left None is e = last_bad reader j left (ap (λ o. o >>= reader) is)
not_so reader j left (Some d) is e = last_bad reader j left (ap (λ o. o >>= reader) is ∙ mapped_none (reader d) left e)

text_bad_by : {X : Type 0} (reader : Data → Option X) (text : List ℕ) (v : Option (json.Json × List Token)) → value max_depth (tokens text) ≡ v → converted reader (converted of_json v) ≡ None → (read text >>= reader) ≡ None
text_bad_by reader text None is e = ap (λ o. option_and_then of_json (option_and_then (λ p. if_last p.0 p.1) o) >>= reader) is
text_bad_by reader text (Some p) is e = ap (λ o. option_and_then of_json (option_and_then (λ p. if_last p.0 p.1) o) >>= reader) is ∙ not_so reader p.0 p.1 (of_json p.0) refl e

whole_by : {X : Type 0} (reader : Data → Option X) (text : List ℕ) (x : X) (v : Option (json.Json × List Token)) (left : List Token) → value max_depth (tokens text) ≡ v → converted reader (converted of_json v) ≡ Some (x, left) → (read text >>= reader) ≡ cond (is_nil left) (Some x) None
whole_by reader text x v left is e =
    let d = converted_some reader (converted of_json v) x left e in
    let j = converted_some of_json v d.0 left d.1 in
    ap (λ o. option_and_then of_json (option_and_then (λ p. if_last p.0 p.1) o) >>= reader) (is ∙ j.1) ∙ at_end reader j.0 d.0 x left j.2 d.2

-- the text is one value, and it is read so
pub text_ok : {X : Type 0} (reader : Data → Option X) (text : List ℕ) (x : X) → next_in reader max_depth (tokens text) ≡ Some (x, []) → (read text >>= reader) ≡ Some x
unfolding next_in
text_ok reader text x e = whole_by reader text x (value max_depth (tokens text)) [] refl e

-- more follows the value
pub text_more : {X : Type 0} (reader : Data → Option X) (text : List ℕ) (x : X) (t : Token) (ts : List Token) → next_in reader max_depth (tokens text) ≡ Some (x, t ∷ ts) → (read text >>= reader) ≡ None
unfolding next_in
text_more reader text x t ts e = whole_by reader text x (value max_depth (tokens text)) (t ∷ ts) refl e

-- nothing is read of it
pub text_bad : {X : Type 0} (reader : Data → Option X) (text : List ℕ) → next_in reader max_depth (tokens text) ≡ None → (read text >>= reader) ≡ None
unfolding next_in
text_bad reader text e = text_bad_by reader text (value max_depth (tokens text)) refl e

-- ---- the text of a number

-- a number that is no integer is read as a float, or not at all
finite_only : {Y : Type 0} (g : Num → Option Y) → ((x : Float) → g (float x) ≡ None) → (b : Bool) (x : Float) → option_and_then g (cond b (Some (float x)) None) ≡ None
finite_only g none true x = none x
finite_only g none false x = refl

fits : (p : Parts) (n : ℕ) → (is_integer p && nat_lt (digits_of p) n) ≡ true → IsInteger p × (digits_of p < n)
fits p n h = grind (arith, nat_tests)

fits_again : (p : Parts) (n : ℕ) → IsInteger p → digits_of p < n → (is_integer p && nat_lt (digits_of p) n) ≡ true
fits_again p n whole less = let some = whole.0 in let point = whole.1 in let exponent = whole.2 in grind (arith, nat_tests)

natural_by : (r : Option ℕ) (p : Parts) (b : Bool) → (is_integer p && nat_lt (digits_of p) (2 ^ 64)) ≡ b → SomeIff r (IsInteger p × (digits_of p < 2 ^ 64)) (digits_of p)
    → r ≡ option_and_then as_u64 (cond b (Some (unsigned (digits_of p))) (float_of false p))
natural_by None p true e none = absurd (none (fits p (2 ^ 64) e))
natural_by None p false e none = sym (finite_only as_u64 (λ x. refl) (float_is_finite (nearest binary64 false p)) (nearest binary64 false p))
natural_by (Some x) p true e some = ap Some some.1
natural_by (Some x) p false e some = let is = fits_again p (2 ^ 64) some.0.0 some.0.1 in absurd cc

-- the natural number that a text without a minus is
pub natural_of_text : (s : List ℕ) (r : Option ℕ) → (slice_index s 0 == 45) ≡ false → SomeIff r (IsInteger (scan s) × (digits_of (scan s) < 2 ^ 64)) (digits_of (scan s)) → r ≡ option_and_then as_u64 (number_of s)
unfolding number_of
natural_of_text s r no_minus found = rw no_minus (natural_by r (scan s) (is_integer (scan s) && nat_lt (digits_of (scan s)) (2 ^ 64)) refl found)

no_natural : (b : Bool) (p : Parts) → option_and_then as_u64 (cond b (Some (negative (with_sign true (digits_of p)))) (float_of true p)) ≡ None
no_natural true p = refl
no_natural false p = finite_only as_u64 (λ x. refl) (float_is_finite (nearest binary64 true p)) (nearest binary64 true p)

-- a text with a minus is no natural number
pub natural_of_minus : (s : List ℕ) → (slice_index s 0 == 45) ≡ true → None ≡ option_and_then as_u64 (number_of s)
unfolding number_of
natural_of_minus s minus = rw minus (sym (no_natural (is_integer (scan (drop 1 s)) && nat_lt 0 (digits_of (scan (drop 1 s))) && nat_le (digits_of (scan (drop 1 s))) (2 ^ 63)) (scan (drop 1 s))))

integer_by : (r : Option ℤ) (p : Parts) (b c : Bool) → (is_integer p && nat_lt (digits_of p) (2 ^ 64)) ≡ b → nat_lt (digits_of p) (2 ^ 63) ≡ c
    → SomeIff r (IsInteger p × FitsSigned w64 (pos (digits_of p))) (pos (digits_of p)) → r ≡ option_and_then integer_at (cond b (Some (unsigned (digits_of p))) (float_of false p))
unfolding integer_at
integer_by None p true true e f none = let less : digits_of p < 2 ^ 63 = grind (arith, nat_tests) in let fit : FitsSigned w64 (pos (digits_of p)) = omega arith in absurd (none ((fits p (2 ^ 64) e).0, fit))
integer_by None p true false e f none = rw f refl
integer_by None p false c e f none = sym (finite_only integer_at (λ x. refl) (float_is_finite (nearest binary64 false p)) (nearest binary64 false p))
integer_by (Some x) p true true e f some = rw f (ap Some some.1)
integer_by (Some x) p true false e f some = let fit : FitsSigned w64 (pos (digits_of p)) = some.0.1 in let less : digits_of p < 2 ^ 63 = omega arith in absurd (grind (arith, nat_tests))
integer_by (Some x) p false c e f some =
    let fit : FitsSigned w64 (pos (digits_of p)) = some.0.1 in
    let less : digits_of p < 2 ^ 63 = omega arith in
    let is = fits_again p (2 ^ 64) some.0.0 (omega arith) in
    absurd cc

-- the integer that a text without a minus is
pub integer_of_text : (s : List ℕ) (r : Option ℤ) → (slice_index s 0 == 45) ≡ false → SomeIff r (IsInteger (scan s) × FitsSigned w64 (with_sign false (digits_of (scan s)))) (with_sign false (digits_of (scan s)))
    → r ≡ option_and_then integer_at (number_of s)
unfolding number_of
integer_of_text s r no_minus found =
    rw no_minus (integer_by r (scan s) (is_integer (scan s) && nat_lt (digits_of (scan s)) (2 ^ 64)) (nat_lt (digits_of (scan s)) (2 ^ 63)) refl refl found)

fits_below : (p : Parts) (d : ℕ) → (is_integer p && nat_lt 0 d && nat_le d (2 ^ 63)) ≡ true → IsInteger p × (0 < d) × (d ≤ 2 ^ 63)
fits_below p d h = grind (arith, nat_tests)

fits_below_again : (p : Parts) (d : ℕ) → IsInteger p → 0 < d → d ≤ 2 ^ 63 → (is_integer p && nat_lt 0 d && nat_le d (2 ^ 63)) ≡ true
fits_below_again p d whole some less = let long = whole.0 in let point = whole.1 in let exponent = whole.2 in grind (arith, nat_tests)

minus_by : (r : Option ℤ) (p : Parts) (d : ℕ) (b : Bool) → (is_integer p && nat_lt 0 d && nat_le d (2 ^ 63)) ≡ b → SomeIff r (IsInteger p × FitsSigned w64 (with_sign true d)) (with_sign true d)
    → below_zero r ≡ option_and_then integer_at (cond b (Some (negative (with_sign true d))) (float_of true p))
unfolding integer_at
minus_by None p zero true e none = let f = fits_below p 0 e in absurd (omega arith)
minus_by None p (suc m) true e none = let f = fits_below p (suc m) e in let fit : FitsSigned w64 (negsuc m) = omega arith in absurd (none (f.0, fit))
minus_by None p d false e none = sym (finite_only integer_at (λ x. refl) (float_is_finite (nearest binary64 true p)) (nearest binary64 true p))
minus_by (Some x) p zero true e some = let f = fits_below p 0 e in absurd (omega arith)
minus_by (Some x) p (suc m) true e some =
    let fit : FitsSigned w64 (negsuc m) = some.0.1 in
    let below : m < 2 ^ 63 = omega arith in
    ap (λ z. below_zero (Some z)) some.1 ∙ sym (rw (lt-ltb m (2 ^ 63) below) refl)
minus_by (Some x) p zero false e some =
    ap (λ z. below_zero (Some z)) some.1 ∙ sym (finite_only integer_at (λ x. refl) (float_is_finite (nearest binary64 true p)) (nearest binary64 true p))
minus_by (Some x) p (suc m) false e some = let fit : FitsSigned w64 (negsuc m) = some.0.1 in let is = fits_below_again p (suc m) some.0.0 (omega arith) (omega arith) in absurd cc

-- the integer that a text with a minus is
pub integer_of_minus : (s : List ℕ) (r : Option ℤ) → (slice_index s 0 == 45) ≡ true → SomeIff r (IsInteger (scan (drop 1 s)) × FitsSigned w64 (with_sign true (digits_of (scan (drop 1 s))))) (with_sign true (digits_of (scan (drop 1 s))))
    → below_zero r ≡ option_and_then integer_at (number_of s)
unfolding number_of
integer_of_minus s r minus found =
    let p = scan (drop 1 s) in
    rw minus (minus_by r p (digits_of p) (is_integer p && nat_lt 0 (digits_of p) && nat_le (digits_of p) (2 ^ 63)) refl found)

pub no_front : {X : Type 0} (o : Option (List X × List Token)) → fronted [] o ≡ o
no_front None = refl
no_front (Some p) = refl

-- what is seen in two ways that are the same
pub seen_same : {X Y : Type 0} (f g : X → Y) → ((x : X) → f x ≡ g x) → (r : Result X ReadFault) (o : Option (Y × List Token)) (left : List Token) → Takes f r o left → Takes g r o left
seen_same f g same (Ok x) o left takes = takes ∙ ap (λ y. Some (y, left)) (same x)
seen_same f g same (Err e) o left takes = takes

-- ---- from bytes

pub text_in_utf8 : {X : Type 0} (reader : Data → Option X) (bytes : List ℕ) → is_utf8 bytes ≡ true → text_in reader bytes ≡ (read bytes >>= reader)
unfolding json_of
text_in_utf8 reader bytes e = rw e refl

no_utf8_by : (bytes : List ℕ) (b : Bool) → is_utf8 bytes ≡ b → (IsUtf8 bytes → ⊥) → b ≡ false
no_utf8_by bytes true e never = absurd (never (IsUtf8-from_is_utf8 bytes e))
no_utf8_by bytes false e never = refl

pub no_utf8 : (bytes : List ℕ) → (IsUtf8 bytes → ⊥) → json_of bytes ≡ None
unfolding json_of
no_utf8 bytes never = rw (no_utf8_by bytes (is_utf8 bytes) refl never) refl

-- a step that failed leaves nothing of what the bytes are a text of
pub failed_text : {X Y Z : Type 0} (view : X → Y) (r : Result X ReadFault) (e : ReadFault) (step : Option Z) (whole : Option Y) → IsErrAnd r (λ f. f ≡ e) → Fails e step → (step ≡ None → whole ≡ None) → Gives view r whole
failed_text view (Ok x) e step whole is fails none = absurd is
failed_text view (Err NoMemory) e step whole is fails none = tt
failed_text view (Err Bad) Bad step whole is fails none = none fails
failed_text view (Err Bad) NoMemory step whole is fails none = absurd cc

pub same_word : (v w : List ℕ) → v ≡ w → bytes_eq v w ≡ true
same_word v w e = (bytes_eq-Decides v w).1 e

false_by : (b : Bool) → (b ≡ true → ⊥) → b ≡ false
false_by true never = absurd (never refl)
false_by false never = refl

pub other_word : (v w : List ℕ) → (v ≡ w → ⊥) → bytes_eq v w ≡ false
other_word v w never = false_by (bytes_eq v w) (λ e. never ((bytes_eq-Decides v w).0 e))

-- ---- a text or a list

pub next_at_string : {Y : Type 0} (g : Data → Option Y) (n : ℕ) (s : List ℕ) (ts : List Token) → next_in g n (Token.string s ∷ ts) ≡ leaving ts (g (string s))
unfolding next_in
next_at_string g n s ts = ap (λ o. converted g (converted of_json o)) (value_is n (Token.string s ∷ ts))

pub next_at_list : {Y : Type 0} (g : Data → Option Y) (f : List Data → Option Y) → ((is : Items) → g (array is) ≡ f (listed is)) → (n : ℕ) (ts : List Token) → 0 < n → next_in g n (Token.begin_array ∷ ts) ≡ rest_in f (n - 1) ts
unfolding next_in rest_in
next_at_list g f same n ts deep =
    let is = items (value (n - 1)) (length ts) ts in
    ap (λ o. converted g (converted of_json o)) (value-begin_array n ts deep) ∙ of_array g is ∙ converted_same (λ is. g (array is)) (λ is. f (listed is)) same (converted of_items is)

pub next_at_none : {Y : Type 0} (g : Data → Option Y) (n : ℕ) → next_in g n [] ≡ None
unfolding next_in
next_at_none g n = ap (λ o. converted g (converted of_json o)) (value_is n [])

-- at another token, what reads texts and lists reads nothing
pub next_elsewhere : {Y : Type 0} (g : Data → Option Y) → g null ≡ None → ((b : Bool) → g (boolean b) ≡ None) → ((x : Num) → g (number x) ≡ None) → ((ms : Members) → g (object ms) ≡ None)
    → (n : ℕ) (t : Token) (ts : List Token) → None ≡ string_of t → begins_list t ≡ false → next_in g n (t ∷ ts) ≡ None
unfolding next_in
next_elsewhere g nulls booleans numbers objects n Token.begin_object ts e f = ap (λ o. converted g (converted of_json o)) (at_object n ts).1 ∙ of_object g objects (at_object n ts).0
next_elsewhere g nulls booleans numbers objects n Token.end_object ts e f = ap (λ o. converted g (converted of_json o)) (value_is n (Token.end_object ∷ ts))
next_elsewhere g nulls booleans numbers objects n Token.begin_array ts e f = absurd cc
next_elsewhere g nulls booleans numbers objects n Token.end_array ts e f = ap (λ o. converted g (converted of_json o)) (value_is n (Token.end_array ∷ ts))
next_elsewhere g nulls booleans numbers objects n (Token.key s) ts e f = ap (λ o. converted g (converted of_json o)) (value_is n (Token.key s ∷ ts))
next_elsewhere g nulls booleans numbers objects n (Token.string s) ts e f = absurd cc
next_elsewhere g nulls booleans numbers objects n (Token.number s) ts e f = ap (λ o. converted g (converted of_json o)) (value_is n (Token.number s ∷ ts)) ∙ seen_number g numbers ts (number_of s)
next_elsewhere g nulls booleans numbers objects n (Token.boolean b) ts e f = ap (λ o. converted g (converted of_json o)) (value_is n (Token.boolean b ∷ ts)) ∙ ap (leaving ts) (booleans b)
next_elsewhere g nulls booleans numbers objects n Token.null ts e f = ap (λ o. converted g (converted of_json o)) (value_is n (Token.null ∷ ts)) ∙ ap (leaving ts) nulls
next_elsewhere g nulls booleans numbers objects n Token.bad ts e f = ap (λ o. converted g (converted of_json o)) (value_is n (Token.bad ∷ ts))
