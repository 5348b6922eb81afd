-- MAKE_ARRAY, ERROR, FUNCALL, TYPE_OF, LITERAL, MINVAL, MAXVAL, comparisons, NOT, arithmetic, EPOCH_TIME and TO_EPOCH_TIME
-- (ReQL API reference: error, do, typeOf, literal, minval, maxval, eq, not, add, epochTime, toEpochTime).
use Rattle.std.specs.Prelude.{ℤ, pos, List, [], ◌∷◌, not, Option, Some, None, Ok, Err, codes}
use Rattle.reql_datum.specs.Answer.{◌>>=◌, no_text, user}
use Rattle.reql_datum.specs.Kinds.{reserved}
use Rattle.reql_datum.specs.Plain.{Plain, boolean, number, time, text}
use Rattle.reql_rules.specs.Faults.{misplaced}
use Rattle.reql_rules.specs.Types.{truth}
use Rattle.reql_rules.specs.Lists.{object_of}
use Rattle.reql_rules.specs.Numbers.{arith_of}
use Rattle.reql_rules.specs.Relations.{relate}
use Rattle.reql_rules.specs.declared.words.Arith.{Arith}
use Rattle.reql_rules.specs.declared.words.Relate.{Relate}
use Rattle.reql_value_spec.specs.Called.{answer}
use Rattle.reql_value_spec.specs.Meant.{Gives, Rule, name_of, meant_of}
use Rattle.reql_value_spec.specs.Wanted.{seen, as_one, as_datum, as_data, as_number, as_text, as_array}

abbrev pub make_array : Gives (List Plain)
make_array w calls gs opts = as_data gs

abbrev pub raise : Gives Plain
raise w calls [] opts = Err no_text
raise w calls (g ∷ []) opts = do
  s ← as_text g
  Err (user s)
raise w calls gs opts = Err misplaced

abbrev pub funcall : Rule
funcall w calls (f ∷ gs) opts = do
  ds ← as_data gs
  answer calls f ds
funcall w calls gs opts = Err misplaced

abbrev pub type_of : Gives Plain
type_of w calls (g ∷ []) opts = Ok (text (name_of (meant_of g)))
type_of w calls gs opts = Err misplaced

-- a mark for MERGE and UPDATE
abbrev pub marked : Plain
marked = text (codes "LITERAL")

abbrev pub literal : Gives Plain
literal w calls [] opts = Ok (object_of ((reserved, marked) ∷ []))
literal w calls (g ∷ []) opts = do
  d ← as_datum g
  Ok (object_of ((reserved, marked) ∷ (codes "value", d) ∷ []))
literal w calls gs opts = Err misplaced

abbrev pub constant : Plain → Gives Plain
constant d w calls gs opts = Ok d

abbrev pub comparison : Relate → Gives Plain
comparison op w calls gs opts = do
  ds ← as_data gs
  Ok (boolean (relate op ds))

abbrev pub negation : Gives Plain
negation w calls (g ∷ []) opts = do
  d ← as_datum g
  Ok (boolean (not (truth d)))
negation w calls gs opts = Err misplaced

abbrev pub arithmetic : Arith → Gives Plain
arithmetic op w calls gs opts = arith_of seen as_number as_text as_array op gs

abbrev pub time_in : Plain → Option (ℤ × ℤ)
time_in (time t) = Some t
time_in d = None

abbrev pub epoch_time : Gives Plain
epoch_time w calls (g ∷ []) opts = do
  n ← as_number g
  Ok (time (n, pos 0))
epoch_time w calls gs opts = Err misplaced

abbrev pub to_epoch_time : Gives Plain
to_epoch_time w calls (g ∷ []) opts = do
  t ← as_one (codes "PTYPE<TIME>") time_in g
  Ok (number t.0)
to_epoch_time w calls gs opts = Err misplaced
