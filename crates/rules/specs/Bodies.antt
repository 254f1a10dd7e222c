-- What the body of an operation says. A new kind of operation changes only this module.
use Rattle.std.specs.Prelude.{Bool, true, false, ◌||◌, List, [], Option, map}
use Rattle.base_types.specs.Names.{Name}
use Rattle.base_types.specs.Texts.{Bytes}
use Rattle.base_types.specs.declared.value.Value.{Value}
use Rattle.rules.specs.declared.history.Body.{Body}
use Rattle.rules.specs.declared.history.Body.TheVariants.{New, Put, DropVersion}
use Rattle.rules.specs.AttrLists.{Attr, value_at, do_pairs_differ}

-- it changes an object, and does not create one
abbrev pub is_change_body : Body → Bool
is_change_body (New kind attrs) = false
is_change_body _ = true

abbrev pub is_put_body : Body → Bool
is_put_body (Put object version pairs) = true
is_put_body _ = false

abbrev pub is_drop_body : Body → Bool
is_drop_body (DropVersion object version) = true
is_drop_body _ = false

-- the object that an operation of this name creates or changes: it has the name of its creation
abbrev pub object_of_body : Name → Body → Name
object_of_body name (New kind attrs) = name
object_of_body name (Put object version pairs) = object
object_of_body name (DropVersion object version) = object

-- the version that a change starts from, by its identifier; a creation names none
abbrev pub version_of_body : Body → List Name
version_of_body (New kind attrs) = []
version_of_body (Put object version pairs) = version
version_of_body (DropVersion object version) = version

-- the attributes that a put gives, in their order
abbrev pub pairs_of_body : Body → List Attr
pairs_of_body (Put object version pairs) = pairs
pairs_of_body _ = []

abbrev pub keys_of_body : Body → List Bytes
keys_of_body body = map (λ attr. attr.0) (pairs_of_body body)

abbrev pub value_of_body : Bytes → Body → Option Value
value_of_body key body = value_at key (pairs_of_body body)

abbrev pub differ_on_a_key : Body → Body → Bool
differ_on_a_key first second = do_pairs_differ (pairs_of_body first) (pairs_of_body second)

-- exactly one of two changes is a drop
abbrev pub is_one_a_drop : Body → Body → Bool
is_one_a_drop (Put object version pairs) (DropVersion other_object other_version) = true
is_one_a_drop (DropVersion object version) (Put other_object other_version pairs) = true
is_one_a_drop _ _ = false

-- two changes are puts that give some key different values, or exactly one is a drop
abbrev pub are_at_odds : Body → Body → Bool
are_at_odds first second = differ_on_a_key first second || is_one_a_drop first second

-- the kind that a creation gives its object; a change gives none
abbrev pub kind_of_body : Body → Bytes
kind_of_body (New kind attrs) = kind
kind_of_body _ = []

-- the attributes that a creation gives its object; a change gives none
abbrev pub initial_in : Body → List Attr
initial_in (New kind attrs) = attrs
initial_in _ = []
