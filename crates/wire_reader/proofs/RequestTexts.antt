-- The texts of requests.
use Rattle.std.proofs.Common.{◌≡◌, ℕ, ◌≤◌, List, length, Option, Some, None, Result, Ok, Err, Bool, true, false, cond, refl, sym, ◌∙◌, arith, IsUtf8}
use Rattle.std.specs.Prelude.{nat_le, ◌↔◌, IfOk}
use Rattle.std.proofs.lemmas.Bool.Decides.{nat_tests}
use Rattle.json.specs.Lex.{between, lex}
use Rattle.serde_json.specs.Read.{read}
use Rattle.wire.specs.declared.request.TheConstants.{MAX_REQUEST_LEN}
use Rattle.wire.specs.declared.request.Request.{Request}
use Rattle.wire.specs.Form.{IsRequestText}
use Rattle.wire_reader.specs.steps.Requests.{request_of}
use Rattle.wire_reader.specs.steps.Reads.{text_in, request_read}
use Rattle.wire_reader.proofs.Exact.{some_is}
use Rattle.wire_reader.proofs.Requests.{reads_requests}
use Rattle.wire_reader.proofs.ByForm.{text_takes, text_again}

short_enough : (b : Bool) (o : Option Request) (q : Request) → cond b o None ≡ Some q → (b ≡ true) × (o ≡ Some q)
short_enough true o q e = (refl, e)
short_enough false o q e = absurd cc

pub request_text_takes : (bytes : List ℕ) (q : Request) → request_read bytes ≡ Some q → IsRequestText bytes q
unfolding request_read
request_text_takes bytes q e =
    let a = short_enough (nat_le (length bytes) MAX_REQUEST_LEN) (text_in request_of bytes) q e in
    let is_short : nat_le (length bytes) MAX_REQUEST_LEN ≡ true = a.0 in
    record { short = grind (arith, nat_tests); text = text_takes reads_requests bytes q a.1 }

pub request_text_again : (bytes : List ℕ) (q : Request) → IsRequestText bytes q → request_read bytes ≡ Some q
unfolding request_read
request_text_again bytes q h =
    let short : length bytes ≤ MAX_REQUEST_LEN = h.short in
    let is_short : nat_le (length bytes) MAX_REQUEST_LEN ≡ true = grind (arith, nat_tests) in
    rw is_short (text_again reads_requests bytes q h.text)

pub requests_by_form : (bytes : List ℕ) (q : Request) → (request_read bytes ≡ Some q) ↔ IsRequestText bytes q
requests_by_form bytes q = (request_text_takes bytes q, request_text_again bytes q)

-- bytes are a text of one request at most
pub one_request : (bytes : List ℕ) (p q : Request) → IsRequestText bytes p → IsRequestText bytes q → p ≡ q
one_request bytes p q g h = some_is p q (sym (request_text_again bytes p g) ∙ request_text_again bytes q h)

-- ---- other texts of the same lexemes

-- bytes that have the lexemes of a text of a request are one too
pub same_lexemes : (bytes text : List ℕ) (q : Request) → IsUtf8 bytes → length bytes ≤ MAX_REQUEST_LEN → lex between text ≡ lex between bytes → request_read text ≡ Some q → request_read bytes ≡ Some q
same_lexemes bytes text q utf8 short same e =
    let is = (request_text_takes text q e).text in
    let again : read bytes ≡ read text = rw same refl in
    request_text_again bytes q (record { short = short; text = record { utf8 = utf8; value = is.value; is_read = again ∙ is.is_read; form = is.form; in_range = is.in_range } })

-- what follows from a thing of a result holds where it does
pub if_ok : {T E : Type 0} (A B : T → Type 0) (r : Result T E) → ((x : T) → A x → B x) → IfOk r A → IfOk r B
if_ok A B (Ok x) so a = so x a
if_ok A B (Err e) so a = tt
