-- Where the bytes of a text are.
use Rattle.std.specs.Prelude.{ℕ, List, string_bytes}
use Rattle.base_types.specs.declared.text.Form.{Form}
use Rattle.base_types.specs.declared.text.Form.TheVariants.{Short, Long}

abbrev pub form_bytes : Form → List ℕ
form_bytes (Short string) = string.bytes
form_bytes (Long string) = string_bytes string
