-- The kinds of plain values: the names of their types, LITERALs, and what may be shown and stored.
use Rattle.std.specs.Prelude.{ℕ, List, Bool, true, false, not, ◌&&◌, if◌then◌else◌, is_some, codes}
use Rattle.reql_datum.specs.Members.{find}
use Rattle.reql_datum.specs.Plain.{Plain, low, array, boolean, null, number, object, binary, time, text, high, Plains, no_items, item, Pairs, no_pairs, pair, members}

-- the name that no document but a LITERAL has
abbrev pub reserved : List ℕ
reserved = codes "$reql_type$"

-- a LITERAL is an object with the reserved name: a mark for MERGE
abbrev pub is_literal : Pairs → Bool
is_literal ms = is_some (find reserved (members ms))

-- the name of a value's type
abbrev pub type_name : Plain → List ℕ
type_name low = codes "MINVAL"
type_name (array vs) = codes "ARRAY"
type_name (boolean b) = codes "BOOL"
type_name null = codes "NULL"
type_name (number n) = codes "NUMBER"
type_name (object ms) = if is_literal ms then codes "PTYPE<LITERAL>" else codes "OBJECT"
type_name (binary s) = codes "PTYPE<BINARY>"
type_name (time t) = codes "PTYPE<TIME>"
type_name (text s) = codes "STRING"
type_name high = codes "MAXVAL"

-- whether neither MINVAL, MAXVAL nor a LITERAL stands in a value: it may be shown and stored
abbrev mutual
  pub is_storable : Plain → Bool
  is_storable low = false
  is_storable high = false
  is_storable (array vs) = are_storable vs
  is_storable (object ms) = not (is_literal ms) && are_members_storable ms
  is_storable (boolean b) = true
  is_storable null = true
  is_storable (number n) = true
  is_storable (binary s) = true
  is_storable (time t) = true
  is_storable (text s) = true

  pub are_storable : Plains → Bool
  are_storable no_items = true
  are_storable (item v vs) = is_storable v && are_storable vs

  pub are_members_storable : Pairs → Bool
  are_members_storable no_pairs = true
  are_members_storable (pair k v ms) = is_storable v && are_members_storable ms
