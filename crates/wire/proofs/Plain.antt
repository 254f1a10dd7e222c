-- The forms of what is in range are plain.
use Rattle.std.proofs.Common.{◌≡◌, ℕ, ◌^◌, ◌<◌, ◌&&◌, true, false, not, List, [], ◌∷◌, map, None, arith}
use Rattle.std.specs.Prelude.{nat_le}
use Rattle.std.specs.List.{AllByRecursion}
use Rattle.std.proofs.lemmas.Bool.Decides.{nat_tests}
use Rattle.serde_json.specs.Data.{Data}
use Rattle.serde_json.specs.View.{items_of}
use Rattle.base_types.specs.Names.{Name, is_site, is_seq, is_op_name}
use Rattle.base_types.specs.Vectors.{Vector, pair_fault, fault_after, vector_fault, is_vector}
use Rattle.base_types.specs.declared.op_name.TheConstants.{MAX_SEQ}
use Rattle.base_types.specs.declared.state_vector.VectorFault.TheVariants.{OutOfRange}
use Rattle.base_types.specs.declared.value.Value.{Value}
use Rattle.base_types.specs.declared.value.Value.TheVariants.{Number, Text}
use Rattle.base_types.proofs.Choices.{none_both, none_if, not_first}
use Rattle.rules.specs.AttrLists.{Attr}
use Rattle.rules.specs.declared.history.Entry.{Entry}
use Rattle.rules.specs.declared.history.Entry.TheVariants.{Operation, Next, Join as JoinOf}
use Rattle.rules.specs.declared.history.Body.{Body}
use Rattle.rules.specs.declared.history.Body.TheVariants.{New, Put, DropVersion}
use Rattle.wire.specs.declared.request.Request.{Request}
use Rattle.wire.specs.declared.request.Request.TheVariants.{Join, Back, Change, Show, Pull, Leave, List as ListObjects}
use Rattle.wire.specs.declared.reply.Reply.TheVariants.{Joined, Returned, Made, Taken, Versions, Objects, Entries, Left, Notes, Renewed, No}
use Rattle.wire.specs.Form.{list_form, whole_form, name_form, names_form, value_form, attr_form}
use Rattle.wire.specs.Form.{attrs_form, shown_form, version_form, object_form, note_form, body_form}
use Rattle.wire.specs.Form.{entry_form, reply_form, is_at, is_from, IsId, IsValue, IsAttr, IsShown}
use Rattle.wire.specs.Form.{IsVersion, IsObject, IsNote, IsBody, IsEntry, IsRequest, IsReply}
use Rattle.wire.specs.steps.Forms.{request_form}
use Rattle.rules.specs.declared.refusal.Refusal.{Refusal}
use Rattle.rules.specs.Refusals.{code_of}
use Rattle.rules.specs.declared.version.Version.{Version}
use Rattle.rules.specs.declared.version.Shown.{Shown}
use Rattle.rules.specs.declared.version.Shown.TheVariants.{Attrs, Gone}
use Rattle.wire.specs.Notes.{Note}
use Rattle.wire.specs.declared.reply.Reply.{Reply}
use Rattle.wire.proofs.Again.{IsPlain, ArePlain, held_integer}

-- ---- lists

plain_items : (ds : List Data) → AllByRecursion IsPlain ds → ArePlain (items_of ds)
plain_items [] h = tt
plain_items (d ∷ ds) h = (h.0, plain_items ds h.1)

each_plain : {X : Type 0} (form : X → Data) (Fits : X → Type 0) → ((x : X) → Fits x → IsPlain (form x)) → (xs : List X) → AllByRecursion Fits xs → IsPlain (list_form (map form xs))
each_plain form Fits plain [] h = tt
each_plain form Fits plain (x ∷ xs) h = (plain x h.0, each_plain form Fits plain xs h.1)

-- ---- names and vectors

plain_site : (n : ℕ) → is_site n ≡ true → IsPlain (whole_form n)
plain_site n h = let low : n < 2 ^ 64 = grind (arith, nat_tests) in low

name_parts : (name : Name) → is_op_name name ≡ true → (name.0 < 2 ^ 64) × (name.1 < 2 ^ 64)
name_parts name h = grind (arith, nat_tests)

plain_name : (name : Name) → is_op_name name ≡ true → IsPlain (name_form name)
plain_name name h = let low = name_parts name h in (low.0, (low.1, tt))

plain_names : (names : List Name) → AllByRecursion (λ name. is_op_name name ≡ true) names → IsPlain (names_form names)
plain_names = each_plain name_form (λ name. is_op_name name ≡ true) plain_name

pair_parts : (pair : ℕ × ℕ) → not (is_site pair.0 && nat_le pair.1 MAX_SEQ) ≡ false → (pair.0 < 2 ^ 64) × (pair.1 < 2 ^ 64)
pair_parts pair h = grind (arith, nat_tests)

plain_after : (last : ℕ) (pairs : Vector) → fault_after last pairs ≡ None → IsPlain (names_form pairs)
plain_after last [] e = tt
plain_after last (pair ∷ pairs) e =
    let a = none_both (pair_fault last pair) (fault_after pair.0 pairs) e in
    let low = pair_parts pair (not_first (not (is_site pair.0 && nat_le pair.1 MAX_SEQ)) OutOfRange _ a.0).0 in
    ((low.0, (low.1, tt)), plain_after pair.0 pairs a.1)

plain_vector : (seen : Vector) → is_vector seen ≡ true → IsPlain (names_form seen)
unfolding vector_fault
plain_vector seen h = plain_after 0 seen (none_if (fault_after 0 seen) h)

-- ---- operations

plain_value : (v : Value) → IsValue v → IsPlain (value_form v)
plain_value (Number z) h = held_integer z h
plain_value (Text s) h = tt

plain_attr : (p : Attr) → IsAttr p → IsPlain (attr_form p)
plain_attr p h = (tt, (plain_value p.1 h.1, tt))

plain_attrs : (ps : List Attr) → AllByRecursion IsAttr ps → IsPlain (attrs_form ps)
plain_attrs = each_plain attr_form IsAttr plain_attr

plain_body : (b : Body) → IsBody b → AllByRecursion IsPlain (body_form b).1
plain_body (New kind attrs) h = (tt, (plain_attrs attrs h.1.0, tt))
plain_body (Put object version pairs) h = (plain_name object h.0, (plain_names version h.1.0, (plain_attrs pairs h.2.0, tt)))
plain_body (DropVersion object version) h = (plain_name object h.0, (plain_names version h.1.0, tt))

-- ---- entries

plain_at : (count : ℕ) → is_at count ≡ true → count < 2 ^ 64
plain_at count h = grind (arith, nat_tests)

pub plain_entry : (e : Entry) → IsEntry e → IsPlain (entry_form e)
plain_entry (JoinOf site) h = (tt, (plain_site site h, tt))
plain_entry (Operation o) h = (tt, (plain_name o.name h.0, (plain_vector o.seen h.1, plain_items (body_form o.body).1 (plain_body o.body h.2))))
plain_entry (Next count) h = (tt, (plain_at count h, tt))

-- ---- requests

seq_is_plain : (n : ℕ) → is_seq n ≡ true → n < 2 ^ 64
seq_is_plain n h = grind (arith, nat_tests)

from_is_plain : (n : ℕ) → is_from n ≡ true → n < 2 ^ 64
from_is_plain n h = grind (arith, nat_tests)

pub plain_request : (q : Request) → IsRequest q → IsPlain (request_form q)
plain_request (Join room) h = (tt, (tt, tt))
plain_request (Back room site) h = (tt, (tt, (plain_site site h.1, tt)))
plain_request (Change seq seen body) h = (tt, (seq_is_plain seq h.0, (plain_vector seen h.1, plain_items (body_form body).1 (plain_body body h.2))))
plain_request (Show name) h = (tt, (plain_name name h, tt))
plain_request (ListObjects from) h = (tt, (from_is_plain from h, tt))
plain_request (Pull from false) h = (tt, (from_is_plain from h, tt))
plain_request (Pull from true) h = (tt, (from_is_plain from h, tt))
plain_request Leave h = (tt, tt)

-- ---- replies

plain_code : (refusal : Refusal) → code_of refusal < 2 ^ 64
plain_code refusal = grind arith

plain_ids : (ids : List (List Name)) → AllByRecursion IsId ids → IsPlain (list_form (map names_form ids))
plain_ids = each_plain names_form IsId (λ names id. plain_names names id.0)

plain_shown : (s : Shown) → IsShown s → IsPlain (shown_form s)
plain_shown (Attrs attrs) h = plain_attrs attrs h.0
plain_shown Gone h = tt

plain_version : (v : Version) → IsVersion v → IsPlain (version_form v)
plain_version v h = (plain_names v.id h.0.0, (plain_shown v.shown h.1, tt))

plain_object : (o : Name × List ℕ) → IsObject o → IsPlain (object_form o)
plain_object o h = (plain_name o.0 h.0, (tt, tt))

plain_note : (n : Note) → IsNote n → IsPlain (note_form n)
plain_note n h = (plain_site n.0 h.0, (tt, tt))

pub plain_reply : (r : Reply) → IsReply r → IsPlain (reply_form r)
plain_reply (Joined at site) h = (tt, (plain_at at h.0, (plain_site site h.1, tt)))
plain_reply (Returned at site seq) h = (tt, (plain_at at h.0, (plain_site site h.1, (plain_at seq h.2, tt))))
plain_reply (Made at name) h = (tt, (plain_at at h.0, (plain_name name h.1, tt)))
plain_reply (Taken at ids) h = (tt, (plain_at at h.0, (plain_ids ids h.1.0, tt)))
plain_reply (Versions at name kind versions) h = (tt, (plain_at at h.0, (plain_name name h.1, (tt, (each_plain version_form IsVersion plain_version versions h.3.0, tt)))))
plain_reply (Objects at from total objects) h = (tt, (plain_at at h.0, (from_is_plain from h.1, (plain_at total h.2, (each_plain object_form IsObject plain_object objects h.3, tt)))))
plain_reply (Entries at from page) h = (tt, (plain_at at h.0, (from_is_plain from h.1, (each_plain entry_form IsEntry plain_entry page h.2, tt))))
plain_reply (Left at) h = (tt, (plain_at at h, tt))
plain_reply (Notes at notes) h = (tt, (plain_at at h.0, (each_plain note_form IsNote plain_note notes h.1.0, tt)))
plain_reply (Renewed at room) h = (tt, (plain_at at h.0, (tt, tt)))
plain_reply (No at refusal) h = (tt, (plain_at at h, (plain_code refusal, (tt, tt))))
