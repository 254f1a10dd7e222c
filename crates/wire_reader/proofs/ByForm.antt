-- What an exact reader of forms says of what a function returns.
use Rattle.std.proofs.Common.{◌≡◌, ℕ, List, Option, Some, None, Bool, true, false, cond, Result, Ok, Err, refl, sym, ◌∙◌}
use Rattle.std.specs.Prelude.{IfOk, IsErrOf, ◌↔◌}
use Rattle.std.specs.Str.{is_utf8}
use Rattle.std.proofs.lemmas.Str.{IsUtf8-from_is_utf8, is_utf8-from_IsUtf8}
use Rattle.serde_json.specs.Data.{Data}
use Rattle.serde_json.specs.Read.{read}
use Rattle.wire_reader.specs.declared.fault.ReadFault.{ReadFault}
use Rattle.wire_reader.specs.declared.fault.ReadFault.TheVariants.{Bad, NoMemory}
use Rattle.wire.specs.Form.{IsTextOf}
use Rattle.wire.specs.steps.Forms.{HasForm}
use Rattle.wire_reader.specs.steps.Reading.{Gives}
use Rattle.wire_reader.specs.steps.Reads.{json_of, text_in}
use Rattle.wire_reader.proofs.Exact.{ReadsForms, bind_some, some_is}

-- ---- what was given

pub given_value : {X : Type 0} (r : Result X ReadFault) (o : Option X) → Gives (λ x. x) r o → IfOk r (λ x. o ≡ Some x)
given_value (Ok x) o given = given
given_value (Err e) o given = tt

pub given_none : {X : Type 0} (r : Result X ReadFault) (o : Option X) → Gives (λ x. x) r o → IsErrOf r Bad → o ≡ None
given_none (Ok x) o given bad = absurd cc
given_none (Err NoMemory) o given bad = absurd cc
given_none (Err Bad) o given bad = given

-- of what is so exactly where this is given
pub given_ok : {X : Type 0} (r : Result X ReadFault) (o : Option X) (Is : X → Type 0) → ((x : X) → o ≡ Some x → Is x) → Gives (λ x. x) r o → IfOk r Is
given_ok (Ok x) o Is h given = h x given
given_ok (Err e) o Is h given = tt

pub given_bad : {X : Type 0} (r : Result X ReadFault) (o : Option X) (Is : X → Type 0) → ((x : X) → Is x → o ≡ Some x) → Gives (λ x. x) r o → IsErrOf r Bad → (x : X) → Is x → ⊥
given_bad r o Is h given bad x is =
    let none : o ≡ None = given_none r o given bad in
    let some : o ≡ Some x = h x is in
    absurd cc

-- ---- JSON values

pub value_takes : {X : Type 0} {reader : Data → Option X} {IsForm : Data → X → Type 0} {Fits : X → Type 0} → ReadsForms X reader IsForm Fits → (d : Data) (x : X) → reader d ≡ Some x → HasForm IsForm Fits d x
value_takes reads d x e = let a = reads.takes d x e in record { form = a.1; in_range = a.0 }

pub value_again : {X : Type 0} {reader : Data → Option X} {IsForm : Data → X → Type 0} {Fits : X → Type 0} → ReadsForms X reader IsForm Fits → (d : Data) (x : X) → HasForm IsForm Fits d x → reader d ≡ Some x
value_again reads d x h = reads.again d x h.form h.in_range

-- ---- texts

of_utf8 : (b : Bool) (o : Option Data) (d : Data) → cond b o None ≡ Some d → (b ≡ true) × (o ≡ Some d)
of_utf8 true o d e = (refl, e)
of_utf8 false o d e = absurd cc

pub text_takes : {X : Type 0} {reader : Data → Option X} {IsForm : Data → X → Type 0} {Fits : X → Type 0} → ReadsForms X reader IsForm Fits → (bytes : List ℕ) (x : X) → text_in reader bytes ≡ Some x → IsTextOf IsForm Fits bytes x
unfolding json_of
text_takes {reader = reader} reads bytes x e =
    let a = bind_some (cond (is_utf8 bytes) (read bytes) None) reader x e in
    let b = of_utf8 (is_utf8 bytes) (read bytes) a.0 a.1 in
    let c = reads.takes a.0 x a.2 in
    record { utf8 = IsUtf8-from_is_utf8 bytes b.0; value = a.0; is_read = b.1; form = c.1; in_range = c.0 }

pub text_again : {X : Type 0} {reader : Data → Option X} {IsForm : Data → X → Type 0} {Fits : X → Type 0} → ReadsForms X reader IsForm Fits → (bytes : List ℕ) (x : X) → IsTextOf IsForm Fits bytes x → text_in reader bytes ≡ Some x
unfolding json_of
text_again reads bytes x h = rw (is_utf8-from_IsUtf8 bytes h.utf8, h.is_read) (reads.again h.value x h.form h.in_range)

pub texts_by_form : {X : Type 0} {reader : Data → Option X} {IsForm : Data → X → Type 0} {Fits : X → Type 0} → ReadsForms X reader IsForm Fits → (bytes : List ℕ) (x : X) → (text_in reader bytes ≡ Some x) ↔ IsTextOf IsForm Fits bytes x
texts_by_form reads bytes x = (text_takes reads bytes x, text_again reads bytes x)

-- bytes are a text of one value at most
pub one_value : {X : Type 0} {reader : Data → Option X} {IsForm : Data → X → Type 0} {Fits : X → Type 0} → ReadsForms X reader IsForm Fits → (bytes : List ℕ) (x y : X) → IsTextOf IsForm Fits bytes x → IsTextOf IsForm Fits bytes y → x ≡ y
one_value reads bytes x y g h = some_is x y (sym (text_again reads bytes x g) ∙ text_again reads bytes y h)
