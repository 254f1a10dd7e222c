-- No form nests deep.
use Rattle.std.proofs.Common.{ℕ, suc, ◌≤◌, ℤ, pos, negsuc, List, [], ◌∷◌, map, codes, true, false, arith}
use Rattle.std.specs.List.{AllByRecursion}
use Rattle.serde_json.specs.Data.{Data, string, number, depth, items_depth}
use Rattle.serde_json.specs.Find.{of_integer}
use Rattle.serde_json.specs.View.{items_of}
use Rattle.base_types.specs.declared.value.Value.{Value}
use Rattle.base_types.specs.declared.value.Value.TheVariants.{Number, Text}
use Rattle.base_types.specs.Vectors.{Vector}
use Rattle.rules.specs.AttrLists.{Attr}
use Rattle.wire.specs.declared.request.Request.{Request}
use Rattle.wire.specs.declared.request.Request.TheVariants.{Join, Back, Change, Show, Pull, Leave, List as ListObjects}
use Rattle.rules.specs.declared.history.Entry.{Entry}
use Rattle.rules.specs.declared.history.Entry.TheVariants.{Operation, Next, Join as JoinOf}
use Rattle.rules.specs.declared.history.Body.{Body}
use Rattle.rules.specs.declared.history.Body.TheVariants.{New, Put, DropVersion}
use Rattle.rules.specs.declared.version.Version.{Version}
use Rattle.rules.specs.declared.version.Shown.{Shown}
use Rattle.rules.specs.declared.version.Shown.TheVariants.{Attrs, Gone}
use Rattle.wire.specs.declared.reply.Reply.{Reply}
use Rattle.wire.specs.declared.reply.Reply.TheVariants.{Joined, Returned, Made, Taken, Versions, Objects, Entries, Left, Notes, Renewed, No}
use Rattle.wire.specs.Form.{list_form, whole_form, name_form, names_form, value_form, attr_form}
use Rattle.wire.specs.Form.{attrs_form, shown_form, version_form, object_form, note_form, body_form}
use Rattle.wire.specs.Form.{operation_form, entry_form, reply_form}
use Rattle.wire.specs.steps.Forms.{request_form}
use Rattle.rules.specs.Refusals.{code_of, word_of}
use Rattle.wire.specs.Notes.{Note}

abbrev IsShallow : ℕ → Data → Type 0
IsShallow n d = depth d ≤ n

shallow_items : (n : ℕ) (ds : List Data) → AllByRecursion (IsShallow n) ds → items_depth (items_of ds) ≤ n
shallow_items n [] h = omega arith
shallow_items n (d ∷ ds) h = let first = h.0 in let rest = shallow_items n ds h.1 in omega arith

shallow_list : (n : ℕ) (ds : List Data) → AllByRecursion (IsShallow n) ds → IsShallow (suc n) (list_form ds)
shallow_list n ds h = let low = shallow_items n ds h in omega arith

shallow_map : {X : Type 0} (n : ℕ) (form : X → Data) → ((x : X) → IsShallow n (form x)) → (xs : List X) → AllByRecursion (IsShallow n) (map form xs)
shallow_map n form h [] = tt
shallow_map n form h (x ∷ xs) = (h x, shallow_map n form h xs)

shallow_text : (n : ℕ) (s : List ℕ) → IsShallow n (string s)
shallow_text n s = omega arith

shallow_whole : (n m : ℕ) → IsShallow n (whole_form m)
shallow_whole n m = omega arith

shallow_name : (n : ℕ) (p : ℕ × ℕ) → IsShallow (suc n) (name_form p)
shallow_name n p = shallow_list n (whole_form p.0 ∷ whole_form p.1 ∷ []) (shallow_whole n p.0, (shallow_whole n p.1, tt))

shallow_names : (n : ℕ) (ps : List (ℕ × ℕ)) → IsShallow (suc (suc n)) (names_form ps)
shallow_names n ps = shallow_list (suc n) (map name_form ps) (shallow_map (suc n) name_form (shallow_name n) ps)

shallow_integer : (n : ℕ) (z : ℤ) → IsShallow n (number (of_integer z))
shallow_integer n (pos m) = omega arith
shallow_integer n (negsuc m) = omega arith

shallow_value : (n : ℕ) (v : Value) → IsShallow n (value_form v)
shallow_value n (Number z) = shallow_integer n z
shallow_value n (Text s) = shallow_text n s

shallow_attr : (n : ℕ) (p : Attr) → IsShallow (suc n) (attr_form p)
shallow_attr n p = shallow_list n (string p.0 ∷ value_form p.1 ∷ []) (shallow_text n p.0, (shallow_value n p.1, tt))

shallow_attrs : (n : ℕ) (ps : List Attr) → IsShallow (suc (suc n)) (attrs_form ps)
shallow_attrs n ps = shallow_list (suc n) (map attr_form ps) (shallow_map (suc n) attr_form (shallow_attr n) ps)

shallow_shown : (s : Shown) → IsShallow 2 (shown_form s)
shallow_shown (Attrs attrs) = shallow_attrs 0 attrs
shallow_shown Gone = shallow_text 2 (codes "gone")

shallow_version : (v : Version) → IsShallow 3 (version_form v)
shallow_version v = shallow_list 2 (names_form v.id ∷ shown_form v.shown ∷ []) (shallow_names 0 v.id, (shallow_shown v.shown, tt))

shallow_object : (o : (ℕ × ℕ) × List ℕ) → IsShallow 3 (object_form o)
shallow_object o = shallow_list 2 (name_form o.0 ∷ string o.1 ∷ []) (shallow_name 1 o.0, (shallow_text 2 o.1, tt))

shallow_note : (n : Note) → IsShallow 3 (note_form n)
shallow_note n = shallow_list 2 (whole_form n.0 ∷ string n.1 ∷ []) (shallow_whole 2 n.0, (shallow_text 2 n.1, tt))

shallow_fields : (n : ℕ) (s : List ℕ) (ds : List Data) → AllByRecursion (IsShallow n) ds → IsShallow (suc n) (list_form (string s ∷ ds))
shallow_fields n s ds h = shallow_list n (string s ∷ ds) (shallow_text n s, h)

shallow_body : (b : Body) → AllByRecursion (IsShallow 2) (body_form b).1
shallow_body (New kind attrs) = (shallow_text 2 kind, (shallow_attrs 0 attrs, tt))
shallow_body (Put object version pairs) = (shallow_name 1 object, (shallow_names 0 version, (shallow_attrs 0 pairs, tt)))
shallow_body (DropVersion object version) = (shallow_name 1 object, (shallow_names 0 version, tt))

shallow_operation : (head : Data) (seen : Vector) (b : Body) → IsShallow 2 head → IsShallow 3 (operation_form head seen (body_form b))
shallow_operation head seen b low = shallow_fields 2 (body_form b).0 (head ∷ names_form seen ∷ (body_form b).1) (low, (shallow_names 0 seen, shallow_body b))

pub shallow_entry : (e : Entry) → IsShallow 3 (entry_form e)
shallow_entry (JoinOf site) = shallow_fields 2 (codes "join") (whole_form site ∷ []) (shallow_whole 2 site, tt)
shallow_entry (Operation o) = shallow_operation (name_form o.name) o.seen o.body (shallow_name 1 o.name)
shallow_entry (Next count) = shallow_fields 2 (codes "next") (whole_form count ∷ []) (shallow_whole 2 count, tt)

pub shallow_request : (q : Request) → IsShallow 3 (request_form q)
shallow_request (Join room) = shallow_fields 2 (codes "join") (string room ∷ []) (shallow_text 2 room, tt)
shallow_request (Back room site) = shallow_fields 2 (codes "back") (string room ∷ whole_form site ∷ []) (shallow_text 2 room, (shallow_whole 2 site, tt))
shallow_request (Change seq seen body) = shallow_operation (whole_form seq) seen body (shallow_whole 2 seq)
shallow_request (ListObjects from) = shallow_fields 2 (codes "list") (whole_form from ∷ []) (shallow_whole 2 from, tt)
shallow_request (Pull from false) = shallow_fields 2 (codes "pull") (whole_form from ∷ []) (shallow_whole 2 from, tt)
shallow_request (Pull from true) = shallow_fields 2 (codes "wait") (whole_form from ∷ []) (shallow_whole 2 from, tt)
shallow_request (Show name) = shallow_fields 2 (codes "show") (name_form name ∷ []) (shallow_name 1 name, tt)
shallow_request Leave = shallow_fields 2 (codes "leave") [] tt

pub shallow_reply : (r : Reply) → IsShallow 5 (reply_form r)
shallow_reply (Joined at site) = shallow_fields 4 (codes "joined") (whole_form at ∷ whole_form site ∷ []) (shallow_whole 4 at, (shallow_whole 4 site, tt))
shallow_reply (Returned at site seq) = shallow_fields 4 (codes "back") (whole_form at ∷ whole_form site ∷ whole_form seq ∷ []) (shallow_whole 4 at, (shallow_whole 4 site, (shallow_whole 4 seq, tt)))
shallow_reply (Made at name) = shallow_fields 4 (codes "made") (whole_form at ∷ name_form name ∷ []) (shallow_whole 4 at, (shallow_name 3 name, tt))
shallow_reply (Taken at ids) =
    shallow_fields 4 (codes "taken") (whole_form at ∷ list_form (map names_form ids) ∷ []) (shallow_whole 4 at, (shallow_list 3 (map names_form ids) (shallow_map 3 names_form (shallow_names 1) ids), tt))
shallow_reply (Versions at name kind versions) =
    shallow_fields 4 (codes "versions") (whole_form at ∷ name_form name ∷ string kind ∷ list_form (map version_form versions) ∷ [])
    (shallow_whole 4 at, (shallow_name 3 name, (shallow_text 4 kind, (shallow_list 3 (map version_form versions) (shallow_map 3 version_form shallow_version versions), tt))))
shallow_reply (Objects at from total objects) =
    shallow_fields 4 (codes "objects") (whole_form at ∷ whole_form from ∷ whole_form total ∷ list_form (map object_form objects) ∷ [])
    (shallow_whole 4 at, (shallow_whole 4 from, (shallow_whole 4 total, (shallow_list 3 (map object_form objects) (shallow_map 3 object_form shallow_object objects), tt))))
shallow_reply (Entries at from entries) =
    shallow_fields 4 (codes "entries") (whole_form at ∷ whole_form from ∷ list_form (map entry_form entries) ∷ [])
    (shallow_whole 4 at, (shallow_whole 4 from, (shallow_list 3 (map entry_form entries) (shallow_map 3 entry_form shallow_entry entries), tt)))
shallow_reply (Left at) = shallow_fields 4 (codes "left") (whole_form at ∷ []) (shallow_whole 4 at, tt)
shallow_reply (Notes at notes) =
    shallow_fields 4 (codes "notes") (whole_form at ∷ list_form (map note_form notes) ∷ []) (shallow_whole 4 at, (shallow_list 3 (map note_form notes) (shallow_map 3 note_form shallow_note notes), tt))
shallow_reply (Renewed at room) = shallow_fields 4 (codes "renewed") (whole_form at ∷ string room ∷ []) (shallow_whole 4 at, (shallow_text 4 room, tt))
shallow_reply (No at refusal) = shallow_fields 4 (codes "no") (whole_form at ∷ whole_form (code_of refusal) ∷ string (word_of refusal) ∷ []) (shallow_whole 4 at, (shallow_whole 4 (code_of refusal), (shallow_text 4 (word_of refusal), tt)))
