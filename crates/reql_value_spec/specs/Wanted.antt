-- Arguments wanted as one type, and optional arguments.
use Rattle.std.specs.Prelude.{ℕ, ℤ, List, Bool, true, false, if◌then◌else◌, Option, Some, None, option_and_then, Ok, Err, codes}
use Rattle.std.specs.Option.{unwrap_or}
use Rattle.reql_datum.specs.Answer.{Answer, ◌>>=◌, Reason}
use Rattle.reql_datum.specs.Members.{find}
use Rattle.reql_datum.specs.Plain.{Plain, null}
use Rattle.reql_rules.specs.Faults.{bad_option}
use Rattle.reql_rules.specs.Types.{mistyped, wanted, object_in, number_in, text_in, items_in, same_text}
use Rattle.reql_rules.specs.Lists.{Bytes, each}
use Rattle.reql_value_spec.specs.World.{World, View, view_at, documents_of}
use Rattle.reql_value_spec.specs.Meant.{Meant, one, stream, selection, row, table, Given, Options, name_of, is_nothing, meant_of}

abbrev pub wrong : Bytes → Meant → Reason
wrong want m = mistyped want (is_nothing m) (name_of m)

-- a value, or a row as its document or null
abbrev pub datum_in : Meant → Option Plain
datum_in (one d) = Some d
datum_in (row n k d) = Some (unwrap_or d null)
datum_in m = None

abbrev pub value_in : Meant → Option Plain
value_in (one d) = Some d
value_in m = None

abbrev pub to_datum : Meant → Answer Plain
to_datum m = wanted (wrong (codes "DATUM") m) (datum_in m)

-- what is made of the elements of a sequence that is no array, or of what is none
abbrev pub by_rows : {A : Type 0} → World → (List Plain → A) → Answer A → Meant → Answer A
by_rows w f other (stream ds) = Ok (f ds)
by_rows w f other (selection n k ds) = Ok (f ds)
by_rows w f other (table n) = view_at w n >>= λ v. Ok (f (documents_of v))
by_rows w f other m = other

abbrev pub to_sequence : World → Meant → Answer (List Plain)
to_sequence w (one d) = wanted (wrong (codes "SEQUENCE") (one d)) (items_in d)
to_sequence w m = by_rows w (λ ds. ds) (Err (wrong (codes "SEQUENCE") m)) m

-- a table, with its slot
abbrev pub to_table : World → Meant → Answer (ℕ × View)
to_table w (table n) = view_at w n >>= λ v. Ok (n, v)
to_table w m = Err (wrong (codes "TABLE") m)

abbrev pub to_object : Meant → Answer (List (Bytes × Plain))
to_object m = wanted (wrong (codes "OBJECT") m) (option_and_then object_in (datum_in m))

-- the same of arguments

abbrev pub as_datum : Given → Answer Plain
as_datum g = to_datum (meant_of g)

abbrev pub as_data : List Given → Answer (List Plain)
as_data gs = each as_datum gs

-- an argument as the plain value that it is, and as one of a type
abbrev pub seen : Given → Option Plain
seen g = value_in (meant_of g)

abbrev pub as_one : {A : Type 0} → Bytes → (Plain → Option A) → Given → Answer A
as_one want f g = wanted (wrong want (meant_of g)) (option_and_then f (seen g))

abbrev pub as_number : Given → Answer ℤ
as_number g = as_one (codes "NUMBER") number_in g

abbrev pub as_text : Given → Answer Bytes
as_text g = as_one (codes "STRING") text_in g

abbrev pub as_array : Given → Answer (List Plain)
as_array g = as_one (codes "ARRAY") items_in g

abbrev pub as_object : Given → Answer (List (Bytes × Plain))
as_object g = to_object (meant_of g)

abbrev pub as_sequence : World → Given → Answer (List Plain)
as_sequence w g = to_sequence w (meant_of g)

abbrev pub as_table : World → Given → Answer (ℕ × View)
as_table w g = to_table w (meant_of g)

-- optional arguments: a text, a truth value, and whether a bound is open

abbrev pub accepted : {A : Type 0} → Bytes → Option A → Answer (Option A)
accepted name None = Err (bad_option name)
accepted name (Some x) = Ok (Some x)

abbrev pub text_given : Bytes → Option Given → Answer (Option Bytes)
text_given name None = Ok None
text_given name (Some g) = accepted name (option_and_then text_in (seen g))

abbrev pub text_option : Bytes → Options → Answer (Option Bytes)
text_option name opts = text_given name (find name opts)

abbrev pub index_text : Options → Answer (Option Bytes)
index_text opts = text_option (codes "index") opts

abbrev pub boundness : Bytes → Bool → Option Bytes → Answer Bool
boundness name usual None = Ok usual
boundness name usual (Some s) = if same_text s (codes "open") then Ok true else (if same_text s (codes "closed") then Ok false else Err (bad_option name))

abbrev pub is_open : Bytes → Bool → Options → Answer Bool
is_open name usual opts = do
  s ← text_option name opts
  boundness name usual s

abbrev pub left_is_open : Options → Answer Bool
left_is_open opts = is_open (codes "left_bound") false opts

abbrev pub right_is_open : Options → Answer Bool
right_is_open opts = is_open (codes "right_bound") true opts
