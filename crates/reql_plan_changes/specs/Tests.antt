-- The tests of a feed's term, in smaller parts.
use Rattle.std.specs.Prelude.{ℕ, ℤ, pos, List, Option, Some, Bool, ◌&&◌, if◌then◌else◌, nat_le, Ok, Err, codes}
use Rattle.reql_datum.specs.Answer.{Answer, ◌>>=◌}
use Rattle.reql_datum.specs.Keys.{is_key}
use Rattle.reql_term.specs.Form.{Form, NamedForms}
use Rattle.reql_rules.specs.Faults.{bad_option}
use Rattle.reql_rules.specs.Lists.{Bytes}
use Rattle.reql_value_spec.specs.Tables.{key_if, may_bound}
use Rattle.reql_value_spec.specs.Wanted.{index_text, left_is_open, right_is_open}
use Rattle.reql_faults.specs.Places.{option}
use Rattle.reql_plan_spec.specs.Settled.{there}
use Rattle.reql_plan_spec.specs.Feeding.{datum_at, givens, order_name, index_or, count_in}

abbrev pub key_at : Form → Answer (Unit {0})
key_at f = datum_at f >>= key_if is_key >>= λ _. Ok tt

abbrev pub bounds_test : Form → Form → List (Bytes × Form) → Answer (Unit {0})
bounds_test l h ms = do
  low ← datum_at l
  high ← datum_at h
  _ ← key_if may_bound low
  _ ← key_if may_bound high
  _ ← index_text (givens ms)
  _ ← left_is_open (givens ms)
  _ ← right_is_open (givens ms)
  Ok tt

-- the name of the index among options
abbrev pub name_among : NamedForms → Answer Bytes
name_among ms = there (option (codes "index") ms) >>= λ g. index_or (order_name g)

abbrev pub count_tested : Form → Answer (Unit {0})
count_tested f = count_in f >>= λ _. Ok tt

-- the size of a queue, by the number that is given
abbrev pub size_in : Option ℤ → Answer ℕ
size_in (Some (pos n)) = if nat_le 1 n && nat_le n 1000000 then Ok n else Err (bad_option (codes "changefeed_queue_size"))
size_in n = Err (bad_option (codes "changefeed_queue_size"))
