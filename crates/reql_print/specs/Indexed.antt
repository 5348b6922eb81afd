-- The function of an index as the text of a body: a function as it stands, and a constant as a term that gives the same entries.
use Rattle.std.specs.Prelude.{◌≡◌, ℕ, List, length, Bool, true, false, ◌&&◌, nat_le, if◌then◌else◌, Option, Some, None, Ok}
use Rattle.std.specs.List.{filter}
use Rattle.reql_datum.specs.Keys.{is_key}
use Rattle.reql_datum.specs.Plain.{Plain, array, null, Plains, no_items, item, items_of, listed, depth}
use Rattle.reql_rules.specs.Sizes.{max_depth}
use Rattle.reql_term.specs.Form.{Form, literal, several, keyed, variable, implicit, function, slot, operation, Forms, no_forms, form}
use Rattle.reql_read.specs.Globals.{usual}
use Rattle.reql_read.specs.Query.{start, query_text}
use Rattle.reql_value_spec.specs.Index.{entries, index_value}
use Rattle.reql_value_spec.specs.World.{bare_world}
use Rattle.reql_print.specs.Printed.{printed}

-- a constant that has the entries of another: it alone where it is a key, its keys where each is an entry, else nothing
abbrev pub entry_constant : Bool → Plain → Plain
entry_constant true (array vs) = array (items_of (filter is_key (listed vs)))
entry_constant multi p = if is_key p then p else null

-- a constant as a term that makes its arrays
abbrev mutual
  pub made : Plain → Form
  made (array vs) = several (all_made vs)
  made p = literal p

  pub all_made : Plains → Forms
  all_made no_items = no_forms
  all_made (item v vs) = form (made v) (all_made vs)

-- the limits on arrays that functions of indexes are evaluated in
abbrev mutual
  pub is_short : Plain → Bool
  is_short (array vs) = nat_le (length (listed vs)) bare_world.array_limit && all_short vs
  is_short p = true

  pub all_short : Plains → Bool
  all_short no_items = true
  all_short (item v vs) = is_short v && all_short vs

abbrev pub keeps_limits : Plain → Bool
keeps_limits p = nat_le (depth p) max_depth && is_short p

abbrev pub printed_constant : Plain → Option (List ℕ)
printed_constant p = if keeps_limits p then printed (made p) else None

-- by whether each member of an array has an entry of its own
abbrev pub printed_index : Bool → Form → Option (List ℕ)
printed_index multi (literal p) = printed_constant (entry_constant multi p)
printed_index multi f = printed f

-- a term that is no literal
abbrev pub IsNoLiteral : Form → Type 0
IsNoLiteral (literal p) = ⊥
IsNoLiteral (several fs) = Unit {0}
IsNoLiteral (keyed ms) = Unit {0}
IsNoLiteral (variable n) = Unit {0}
IsNoLiteral implicit = Unit {0}
IsNoLiteral (function ids f) = Unit {0}
IsNoLiteral (slot n) = Unit {0}
IsNoLiteral (operation o fs ms) = Unit {0}

-- a text that reads back to a function that gives this value of every document
abbrev pub ReadsConstant : Plain → List ℕ → Type 0
ReadsConstant p text = (g : Form) × (query_text text ≡ Ok (start g usual)) × ((d : Plain) → index_value g d ≡ Ok p)

-- a text that reads back to a function with the same entries on every document
abbrev pub ReadsSameEntries : Bool → Form → List ℕ → Type 0
ReadsSameEntries multi f text = (g : Form) × (query_text text ≡ Ok (start g usual)) × ((d : Plain) → entries (g, multi) d ≡ entries (f, multi) d)
