-- A value wanted as one type, with the fault that it is another; which values are the same, and which are true.
use Rattle.std.specs.Prelude.{ℤ, List, Bool, true, false, if◌then◌else◌, Option, Some, None, Ok, Err, codes}
use Rattle.std.specs.Ordering.{is_eq}
use Rattle.reql_datum.specs.Answer.{Answer, Reason}
use Rattle.reql_datum.specs.Kinds.{is_literal, type_name}
use Rattle.reql_datum.specs.Members.{text_order}
use Rattle.reql_datum.specs.Order.{order}
use Rattle.reql_datum.specs.Plain.{Plain, array, boolean, null, number, object, text, listed, members}
use Rattle.reql_rules.specs.Lists.{Bytes}
use Rattle.reql_rules.specs.Faults.{type_fault, null_fault}

abbrev pub same : Plain → Plain → Bool
same u v = is_eq (order u v)

abbrev pub same_text : Bytes → Bytes → Bool
same_text s t = is_eq (text_order s t)

-- false and null are false, all else is true
abbrev pub truth : Plain → Bool
truth (boolean b) = b
truth null = false
truth v = true

abbrev pub is_null : Plain → Bool
is_null null = true
is_null v = false

-- what a value is as one type, if it is of that type; a LITERAL is no object
abbrev pub number_in : Plain → Option ℤ
number_in (number n) = Some n
number_in v = None

abbrev pub text_in : Plain → Option Bytes
text_in (text s) = Some s
text_in v = None

abbrev pub items_in : Plain → Option (List Plain)
items_in (array vs) = Some (listed vs)
items_in v = None

abbrev pub object_in : Plain → Option (List (Bytes × Plain))
object_in (object ms) = if is_literal ms then None else Some (members ms)
object_in v = None

-- the fault where one type is wanted, by whether nothing is there and by the type's name of what is
abbrev pub mistyped : Bytes → Bool → Bytes → Reason
mistyped want true name = null_fault want
mistyped want false name = type_fault want name

abbrev pub mismatch : Bytes → Plain → Reason
mismatch want v = mistyped want (is_null v) (type_name v)

module _ {A : Type 0} where
  -- what is there, or the fault that it isn't
  abbrev pub wanted : Reason → Option A → Answer A
  wanted e (Some x) = Ok x
  wanted e None = Err e

abbrev pub as_number : Plain → Answer ℤ
as_number v = wanted (mismatch (codes "NUMBER") v) (number_in v)

abbrev pub as_text : Plain → Answer Bytes
as_text v = wanted (mismatch (codes "STRING") v) (text_in v)

abbrev pub as_items : Plain → Answer (List Plain)
as_items v = wanted (mismatch (codes "ARRAY") v) (items_in v)

abbrev pub as_object : Plain → Answer (List (Bytes × Plain))
as_object v = wanted (mismatch (codes "OBJECT") v) (object_in v)
