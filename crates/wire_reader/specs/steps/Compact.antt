-- Texts of requests, in parts.
use Rattle.std.specs.Prelude.{ℕ, List, codes, false, true, IsUtf8}
use Rattle.std.specs.List.{AllByRecursion}
use Rattle.serde_json.specs.View.{items_of}
use Rattle.serde_json.specs.Written.{items_text}
use Rattle.base_types.specs.declared.value.Value.{Value}
use Rattle.base_types.specs.declared.value.Value.TheVariants.{Number, Text}
use Rattle.rules.specs.AttrLists.{Attr}
use Rattle.rules.specs.declared.history.Body.{Body}
use Rattle.rules.specs.declared.history.Body.TheVariants.{New, Put, DropVersion}
use Rattle.wire.specs.declared.request.Request.{Request}
use Rattle.wire.specs.declared.request.Request.TheVariants.{Join, Back, Change, Show, Pull, Leave}
use Rattle.wire.specs.declared.request.Request.TheVariants.{List as ListObjects}
use Rattle.wire.specs.Form.{body_form}

-- the last fields of an operation, each after a comma, and the end of the list
abbrev pub fields_text : Body → List ℕ
fields_text body = items_text true (items_of (body_form body).1)

-- the word that a request begins with
abbrev pub request_word : Request → List ℕ
request_word (Join room) = codes "join"
request_word (Back room site) = codes "back"
request_word (Change seq seen body) = (body_form body).0
request_word (Show name) = codes "show"
request_word (ListObjects from) = codes "list"
request_word (Pull from false) = codes "pull"
request_word (Pull from true) = codes "wait"
request_word Leave = codes "leave"

-- ---- texts in UTF-8

-- a value's text, if it has one, is UTF-8
abbrev pub IsUtf8Value : Value → Type 0
IsUtf8Value (Number number) = Unit {0}
IsUtf8Value (Text text) = IsUtf8 text

-- so are those of attributes
abbrev pub AreUtf8 : List Attr → Type 0
AreUtf8 = AllByRecursion (λ attr. IsUtf8Value attr.1)

-- and those of an operation
abbrev pub IsUtf8Body : Body → Type 0
IsUtf8Body (New kind attrs) = AreUtf8 attrs
IsUtf8Body (Put object version pairs) = AreUtf8 pairs
IsUtf8Body (DropVersion object version) = Unit {0}

-- and those of a request
abbrev pub IsUtf8Request : Request → Type 0
IsUtf8Request (Change seq seen body) = IsUtf8Body body
IsUtf8Request _ = Unit {0}
