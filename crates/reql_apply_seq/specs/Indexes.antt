-- The values of an index, and DISTINCT of them.
use Rattle.std.specs.Prelude.{ℕ, List, [], Option, Some, None, Ok, Err}
use Rattle.std.specs.Option.{unwrap_or}
use Rattle.reql_datum.specs.Answer.{Answer, ◌>>=◌}
use Rattle.reql_datum.specs.Plain.{Plain}
use Rattle.reql_term.specs.Views.{Entry, entries_of, values_in}
use Rattle.reql_rules.specs.Faults.{misplaced_order}
use Rattle.reql_rules.specs.Lists.{Bytes}
use Rattle.reql_rules.specs.Sorting.{distinct}
use Rattle.reql_value_spec.specs.Meant.{Meant, stream, table, Given, Options, meant_of}
use Rattle.reql_value_spec.specs.Orders.{table_source, distinct_in}
use Rattle.reql_value_spec.specs.Wanted.{as_sequence, index_text}
use Rattle.reql_value_spec.specs.World.{World, View, view_at, entries_named}

-- the entries of an index, as a view is asked for them
abbrev pub entries_by : View → Option Bytes → Option (List Entry)
entries_by v index = entries_of v.documents v.indexes v.entries index

abbrev pub entries_any : View → Option Bytes → List Entry
entries_any v index = unwrap_or (entries_by v index) []

abbrev pub named : View → Bytes → Answer (Option (List Entry))
named v name = entries_named v name >>= λ es. Ok (Some es)

abbrev pub values_any : Option (List Entry) → List Plain
values_any None = []
values_any (Some es) = values_in es

abbrev pub named_values : View → Bytes → Answer (List Plain)
named_values v name = named v name >>= λ x. Ok (values_any x)

abbrev pub table_values : World → Bytes → Meant → Answer (List Plain)
table_values w name (table n) = view_at w n >>= λ v. named_values v name
table_values w name m = Err misplaced_order

abbrev pub distinct_values : World → Bytes → Meant → Answer Meant
distinct_values w name m = table_values w name m >>= λ vs. Ok (stream (distinct vs))

abbrev pub distinct_named : World → Bytes → Meant → Answer Meant
distinct_named w name m = table_source w name m >>= λ es. Ok (stream (distinct (values_in es)))

-- DISTINCT of one argument
abbrev pub distinct_given : World → Given → Options → Answer Meant
distinct_given w g opts = do
  ds ← as_sequence w g
  i ← index_text opts
  distinct_in w (meant_of g) ds i
