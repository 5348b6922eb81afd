-- The table that a range shape stands on, and the index that a shape names.
use Rattle.std.specs.Prelude.{ℕ, [], Bool, true, false, if◌then◌else◌, Option, Some, None, Ok, Err}
use Rattle.reql_datum.specs.Answer.{Answer, ◌>>=◌}
use Rattle.reql_datum.specs.Keys.{is_key}
use Rattle.reql_datum.specs.Plain.{Plain}
use Rattle.reql_rules.specs.Lists.{Bytes}
use Rattle.reql_term.specs.Form.{Form, literal, several, keyed, variable, implicit, function, slot, operation, Forms, no_forms, form}
use Rattle.reql_value_spec.specs.Meaning.{value}
use Rattle.reql_value_spec.specs.Shapes.{is_stage, is_part}
use Rattle.reql_value_spec.specs.Tables.{key_if}
use Rattle.reql_value_spec.specs.Wanted.{to_datum}
use Rattle.reql_value_spec.specs.World.{bare_world}
use Rattle.reql_feed_spec.specs.Kept.{are_free, fields_free}
use Rattle.reql_table_spec.specs.Followed.{is_same}

abbrev pub slot_in : Form → Option ℕ
slot_in (slot k) = Some k
slot_in f = None

abbrev pub is_slot : Form → Bool
is_slot (slot k) = true
is_slot f = false

-- of the arguments of BETWEEN and GET_ALL
abbrev pub part_slot : Forms → Option ℕ
part_slot no_forms = None
part_slot (form f fs) = if are_free [] fs then slot_in f else None

abbrev mutual
  pub shape_slot : Form → Option ℕ
  shape_slot (slot k) = Some k
  shape_slot (operation o fs ms) = if fields_free [] ms then (if is_stage o then stage_slot fs else (if is_part o then part_slot fs else None)) else None
  shape_slot (literal d) = None
  shape_slot (several fs) = None
  shape_slot (keyed ms) = None
  shape_slot (variable id) = None
  shape_slot implicit = None
  shape_slot (function ids body) = None

  pub stage_slot : Forms → Option ℕ
  stage_slot no_forms = None
  stage_slot (form f fs) = if are_free [] fs then shape_slot f else None

-- the index that a shape names is the one that is asked for
abbrev pub agrees : Option Bytes → Answer (Option Bytes) → Bool
agrees asked (Ok index) = is_same index asked
agrees asked (Err e) = false

-- what is there, or nothing where there is a fault
abbrev pub given : {A : Type 0} → Answer A → Option A
given (Ok x) = Some x
given (Err e) = None

-- what a term gives where it reads no table, and a key among answers
abbrev pub datum_given : Form → Answer Plain
datum_given f = value f bare_world [] >>= to_datum

abbrev pub as_key : Answer Plain → Answer Plain
as_key a = a >>= key_if is_key
