-- The compact text of a request whose texts are UTF-8 is UTF-8.
use Rattle.std.proofs.Common.{◌≡◌, ℕ, Bool, true, false, List, [], ◌∷◌, pos, negsuc, Result, Ok, Err, refl, arith, IsUtf8}
use Rattle.std.specs.Prelude.{codes, IfOk}
use Rattle.std.specs.List.{AllByRecursion}
use Rattle.std.proofs.lemmas.Fmt.{IsAscii-decimal, IsAscii-signed}
use Rattle.std.proofs.lemmas.Str.{IsUtf8-append, IsUtf8-from_ascii, IsUtf8-nil}
use Rattle.json.proofs.Printed.Utf8.{IsUtf8-are_ascii, IsUtf8-quoted}
use Rattle.serde_json.specs.Data.{Num, unsigned, negative, float, Data, null, boolean, number, string, array, object, Items, no_items, item}
use Rattle.serde_json.specs.View.{items_of}
use Rattle.serde_json.specs.Written.{comma_if, compact_text, items_text, number_text}
use Rattle.base_types.specs.RoomNames.{is_room_name}
use Rattle.base_types.specs.declared.value.Value.{Value}
use Rattle.base_types.specs.declared.value.Value.TheVariants.{Number, Text}
use Rattle.base_types.proofs.Choices.{none_if}
use Rattle.base_types.proofs.Labels.{label-IsUtf8}
use Rattle.base_types.proofs.RoomNames.{room_name-IsUtf8}
use Rattle.rules.specs.AttrLists.{Attr}
use Rattle.rules.specs.declared.history.Body.{Body}
use Rattle.rules.specs.declared.history.Body.TheVariants.{New, Put, DropVersion}
use Rattle.wire.specs.declared.request.Request.{Request}
use Rattle.wire.specs.declared.request.Request.TheVariants.{Join, Back, Change, Show, Pull, Leave, List as ListObjects}
use Rattle.wire.specs.Form.{attr_form, attrs_form, body_form, names_form, value_form, IsAttr, IsBody, IsRequest}
use Rattle.wire.specs.steps.Forms.{request_form}
use Rattle.wire.proofs.Again.{IsHeldNumber, IsPlain, ArePlain}
use Rattle.wire.proofs.Plain.{plain_request}
use Rattle.wire_reader.specs.steps.Compact.{AreUtf8, IsUtf8Body, IsUtf8Request, IsUtf8Value}

-- ---- JSON values

-- the texts in the value are UTF-8
abbrev mutual
  HasUtf8 : Data → Type 0
  HasUtf8 null = Unit {0}
  HasUtf8 (boolean b) = Unit {0}
  HasUtf8 (number n) = Unit {0}
  HasUtf8 (string s) = IsUtf8 s
  HasUtf8 (array ds) = HaveUtf8 ds
  HasUtf8 (object ms) = Unit {0}

  HaveUtf8 : Items → Type 0
  HaveUtf8 no_items = Unit {0}
  HaveUtf8 (item d ds) = HasUtf8 d × HaveUtf8 ds

number_utf8 : (n : Num) → IsHeldNumber n → IsUtf8 (number_text n)
number_utf8 (unsigned n) h = IsUtf8-from_ascii _ (IsAscii-decimal n h)
number_utf8 (negative (pos n)) h = absurd h
number_utf8 (negative (negsuc n)) h = IsUtf8-from_ascii _ (IsAscii-signed (negsuc n) (omega arith))
number_utf8 (float x) h = absurd h

comma_utf8 : (later : Bool) → IsUtf8 (comma_if later)
comma_utf8 true = IsUtf8-are_ascii (44 ∷ []) refl
comma_utf8 false = IsUtf8-nil

mutual
  text_utf8 : (d : Data) → IsPlain d → HasUtf8 d → IsUtf8 (compact_text d)
  text_utf8 null p u = absurd p
  text_utf8 (boolean b) p u = absurd p
  text_utf8 (number n) p u = number_utf8 n p
  text_utf8 (string s) p u = IsUtf8-quoted s u
  text_utf8 (array ds) p u = IsUtf8-append (91 ∷ []) _ (IsUtf8-are_ascii (91 ∷ []) refl) (rest_utf8 false ds p u)
  text_utf8 (object ms) p u = absurd p

  rest_utf8 : (later : Bool) (ds : Items) → ArePlain ds → HaveUtf8 ds → IsUtf8 (items_text later ds)
  rest_utf8 later no_items p u = IsUtf8-are_ascii (93 ∷ []) refl
  rest_utf8 later (item d ds) p u =
      IsUtf8-append (comma_if later) _ (comma_utf8 later) (IsUtf8-append (compact_text d) _ (text_utf8 d p.0 u.0) (rest_utf8 true ds p.1 u.1))

-- ---- the forms

names_utf8 : (ns : List (ℕ × ℕ)) → HasUtf8 (names_form ns)
names_utf8 [] = tt
names_utf8 (n ∷ ns) = ((tt, (tt, tt)), names_utf8 ns)

value_utf8 : (v : Value) → IsUtf8Value v → HasUtf8 (value_form v)
value_utf8 (Number z) u = tt
value_utf8 (Text s) u = u

attr_utf8 : (p : Attr) → IsAttr p → IsUtf8Value p.1 → HasUtf8 (attr_form p)
attr_utf8 p h u = (label-IsUtf8 32 p.0 (none_if _ h.0), (value_utf8 p.1 u, tt))

attrs_utf8 : (ps : List Attr) → AllByRecursion IsAttr ps → AreUtf8 ps → HasUtf8 (attrs_form ps)
attrs_utf8 [] h u = tt
attrs_utf8 (p ∷ ps) h u = (attr_utf8 p h.0 u.0, attrs_utf8 ps h.1 u.1)

word_utf8 : (b : Body) → IsUtf8 (body_form b).0
word_utf8 (New kind attrs) = IsUtf8-are_ascii (codes "new") refl
word_utf8 (Put target version pairs) = IsUtf8-are_ascii (codes "put") refl
word_utf8 (DropVersion target version) = IsUtf8-are_ascii (codes "drop") refl

body_utf8 : (b : Body) → IsBody b → IsUtf8Body b → HaveUtf8 (items_of (body_form b).1)
body_utf8 (New kind attrs) h u = (label-IsUtf8 32 kind (none_if _ h.0), (attrs_utf8 attrs h.1.0 u, tt))
body_utf8 (Put target version pairs) h u = ((tt, (tt, tt)), (names_utf8 version, (attrs_utf8 pairs h.2.0 u, tt)))
body_utf8 (DropVersion target version) h u = ((tt, (tt, tt)), (names_utf8 version, tt))

room_utf8 : (room : List ℕ) → is_room_name room ≡ true → IsUtf8 room
room_utf8 room h = room_name-IsUtf8 room (none_if _ h)

request_utf8 : (q : Request) → IsRequest q → IsUtf8Request q → HasUtf8 (request_form q)
request_utf8 (Join room) h u = (IsUtf8-are_ascii (codes "join") refl, (room_utf8 room h, tt))
request_utf8 (Back room site) h u = (IsUtf8-are_ascii (codes "back") refl, (room_utf8 room h.0, (tt, tt)))
request_utf8 (Change seq seen body) h u = (word_utf8 body, (tt, (names_utf8 seen, body_utf8 body h.2 u)))
request_utf8 (Show name) h u = (IsUtf8-are_ascii (codes "show") refl, ((tt, (tt, tt)), tt))
request_utf8 (ListObjects from) h u = (IsUtf8-are_ascii (codes "list") refl, (tt, tt))
request_utf8 (Pull from false) h u = (IsUtf8-are_ascii (codes "pull") refl, (tt, tt))
request_utf8 (Pull from true) h u = (IsUtf8-are_ascii (codes "wait") refl, (tt, tt))
request_utf8 Leave h u = (IsUtf8-are_ascii (codes "leave") refl, tt)

pub compact_is_utf8 : (q : Request) → IsRequest q → IsUtf8Request q → IsUtf8 (compact_text (request_form q))
compact_is_utf8 q h u = text_utf8 (request_form q) (plain_request q h) (request_utf8 q h u)

-- ---- results

-- what follows from three things of a result holds where they do
pub if_ok_three : {T E : Type 0} (A B C D : T → Type 0) (r : Result T E) → ((x : T) → A x → B x → C x → D x) → IfOk r A → IfOk r B → IfOk r C → IfOk r D
if_ok_three A B C D (Ok x) so a b c = so x a b c
if_ok_three A B C D (Err e) so a b c = tt
