-- COERCE_TO of any value (ReQL API reference: coerceTo).
use Rattle.std.specs.Prelude.{[], ◌∷◌, if◌then◌else◌, Option, Some, None, option_map, Ok, Err, codes}
use Rattle.std.specs.Option.{unwrap_or}
use Rattle.serde_json.specs.Written.{compact_text}
use Rattle.reql_datum.specs.Answer.{Answer, ◌>>=◌}
use Rattle.reql_datum.specs.Plain.{Plain, null, binary, text}
use Rattle.reql_json.specs.Showing as json
use Rattle.reql_rules.specs.Coercing.{coerce_named}
use Rattle.reql_rules.specs.Faults.{cannot_coerce, unshowable, misplaced}
use Rattle.reql_rules.specs.Types.{same_text}
use Rattle.reql_rules.specs.Lists.{Bytes, array_of}
use Rattle.reql_value_spec.specs.World.{World}
use Rattle.reql_value_spec.specs.Meant.{Meant, one, row, Gives, name_of, meant_of}
use Rattle.reql_value_spec.specs.Wanted.{as_text, by_rows}

-- the JSON text of a value that may be shown
abbrev pub written : Option Bytes → Answer Plain
written None = Err unshowable
written (Some s) = Ok (text s)

abbrev pub json_text : Plain → Answer Plain
json_text d = written (option_map compact_text (json.value d))

-- texts and binaries as such, others as JSON
abbrev pub to_string : Bytes → Plain → Answer Plain
to_string kind (text s) = coerce_named kind (text s) (codes "string")
to_string kind (binary s) = coerce_named kind (binary s) (codes "string")
to_string kind d = json_text d

abbrev pub datum_coerced : Bytes → Plain → Bytes → Answer Plain
datum_coerced kind d to = if same_text to (codes "string") then to_string kind d else coerce_named kind d to

-- a sequence gives an array alone
abbrev pub sequence_coerced : World → Meant → Bytes → Answer Plain
sequence_coerced w m to = if same_text to (codes "array") then by_rows w array_of (Err (cannot_coerce (name_of m) to)) m else Err (cannot_coerce (name_of m) to)

abbrev pub coerced : World → Meant → Bytes → Answer Plain
coerced w (one d) to = datum_coerced (name_of (one d)) d to
coerced w (row n k d) to = datum_coerced (name_of (row n k d)) (unwrap_or d null) to
coerced w m to = sequence_coerced w m to

abbrev pub coerce_to : Gives Plain
coerce_to w calls (g ∷ t ∷ []) opts = do
  to ← as_text t
  coerced w (meant_of g) to
coerce_to w calls gs opts = Err misplaced
