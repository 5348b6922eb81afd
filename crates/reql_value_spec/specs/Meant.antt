-- What terms and arguments give: the data types of ReQL (ReQL API reference: typeOf names them).
use Rattle.std.specs.Prelude.{ℕ, List, Bool, true, false, Option, Some, None, codes}
use Rattle.reql_datum.specs.Answer.{Answer}
use Rattle.reql_datum.specs.Kinds.{type_name}
use Rattle.reql_datum.specs.Plain.{Plain}
use Rattle.reql_term.specs.Views.{Entry, entries_between}
use Rattle.reql_rules.specs.Types.{is_null}
use Rattle.reql_rules.specs.Lists.{Bytes}
use Rattle.reql_value_spec.specs.World.{World}

-- what a table slice lies between, and in which order
pub record Bounds : Type 0 where
  pub index : Bytes
  pub low : Plain
  pub low_open : Bool
  pub high : Plain
  pub high_open : Bool

-- the entries between bounds
abbrev pub bounded : Bounds → List Entry → List Entry
bounded b es = entries_between b.low b.low_open b.high b.high_open false es

-- selections: a slice between bounds, a slice in the order of an index, others, and one that prints as an array
pub data Kind : Type 0 where
  slice_between : Bounds → Kind
  slice_in_order : Kind
  some_rows : Kind
  rows_in_array : Kind

-- what a term gives
pub data Meant : Type 0 where
  one : Plain → Meant
  stream : List Plain → Meant
  selection : ℕ → Kind → List Plain → Meant
  row : ℕ → Plain → Option Plain → Meant
  table : ℕ → Meant
  grouped : List (Plain × Plain) → Meant
  database : Bytes → Meant
  callable : Meant

-- what an argument gives: a value, the function that stands at this place, by whether its body is an object, a key with its direction, or an ERROR, with a text or without one, that is raised only where it is needed
pub data Given : Type 0 where
  given : Meant → Given
  callee : Bool → ℕ → Given
  directed : Bool → Given → Given
  late : Bool → Answer Meant → Given

-- what the functions among the arguments give, by their places
abbrev pub Calls : Type 0
Calls = ℕ → List Plain → Answer Meant

-- the optional arguments, by rising name
abbrev pub Options : Type 0
Options = List (Bytes × Given)

-- what a term gives, by what its arguments gave
abbrev pub Gives : Type 0 → Type 0
Gives A = World → Calls → List Given → Options → Answer A

abbrev pub Rule : Type 0
Rule = Gives Meant

abbrev pub kind_name : Kind → Bytes
kind_name (slice_between b) = codes "TABLE_SLICE"
kind_name slice_in_order = codes "TABLE_SLICE"
kind_name some_rows = codes "SELECTION<STREAM>"
kind_name rows_in_array = codes "SELECTION<ARRAY>"

abbrev pub row_name : Option Plain → Bytes
row_name None = codes "NULL"
row_name (Some d) = codes "SELECTION<OBJECT>"

abbrev pub name_of : Meant → Bytes
name_of (one d) = type_name d
name_of (stream ds) = codes "STREAM"
name_of (selection n k ds) = kind_name k
name_of (row n k d) = row_name d
name_of (table n) = codes "TABLE"
name_of (grouped gs) = codes "GROUPED_DATA"
name_of (database name) = codes "DB"
name_of callable = codes "FUNCTION"

-- null, or a row that is absent
abbrev pub is_absent : Option Plain → Bool
is_absent None = true
is_absent (Some d) = false

abbrev pub is_nothing : Meant → Bool
is_nothing (one d) = is_null d
is_nothing (row n k d) = is_absent d
is_nothing m = false

-- in a value position a function is a value of its own type
abbrev pub meant_of : Given → Meant
meant_of (given m) = m
meant_of (callee makes_object at) = callable
meant_of (directed down g) = callable
meant_of (late texted a) = callable
