-- What the reader of requests reads from a JSON value.
use Rattle.std.specs.Prelude.{List, [], ◌∷◌, codes, Option, Some, Bool, true, false}
use Rattle.serde_json.specs.Data.{Data}
use Rattle.base_types.specs.declared.op_name.TheConstants.{MAX_SEQ, MAX_SITE}
use Rattle.wire.specs.declared.request.TheConstants.{MAX_FROM}
use Rattle.wire.specs.declared.request.Request.{Request}
use Rattle.wire.specs.declared.request.Request.TheVariants.{Join, Back, Change, Show, Pull, Leave}
use Rattle.wire.specs.declared.request.Request.TheVariants.{List as ListObjects}
use Rattle.wire_reader.specs.steps.Reading.{◌>>=◌, end_at, field_at, whole_in, room_in, name_in}
use Rattle.wire_reader.specs.steps.Reading.{Words, WordReader, worded_message_in}
use Rattle.wire_reader.specs.steps.Bodies.{operation_at}

-- what follows "join"
unfoldable pub join_at : List Data → Option Request
join_at ds = field_at room_in end_at ds >>= λ p. Some (Join p.0)

-- what follows "back"
unfoldable pub back_at : List Data → Option Request
back_at ds =
    field_at room_in (field_at (whole_in 1 MAX_SITE) end_at) ds >>= λ p. Some (Back p.0 p.1.0)

-- what follows the word of an operation
unfoldable pub change_at : WordReader Request
change_at word ds = operation_at (whole_in 1 MAX_SEQ) word ds >>= λ p. Some (Change p.0 p.1.0 p.1.1)

-- what follows "show"
unfoldable pub show_at : List Data → Option Request
show_at ds = field_at name_in end_at ds >>= λ p. Some (Show p.0)

-- what follows "list"
unfoldable pub list_at : List Data → Option Request
list_at ds = field_at (whole_in 0 MAX_FROM) end_at ds >>= λ p. Some (ListObjects p.0)

-- what follows "pull", or "wait" if the request waits
unfoldable pub pull_at : Bool → List Data → Option Request
pull_at waits ds = field_at (whole_in 0 MAX_FROM) end_at ds >>= λ p. Some (Pull p.0 waits)

-- what follows "leave"
unfoldable pub leave_at : List Data → Option Request
leave_at ds = end_at ds >>= λ _. Some Leave

abbrev pub request_words : Words Request
request_words =
    (codes "join", join_at) ∷ (codes "back", back_at) ∷ (codes "show", show_at)
    ∷ (codes "list", list_at)
    ∷ (codes "pull", pull_at false) ∷ (codes "wait", pull_at true) ∷ (codes "leave", leave_at) ∷ []

-- the request that a JSON value is a form of
unfoldable pub request_of : Data → Option Request
request_of = worded_message_in request_words change_at
