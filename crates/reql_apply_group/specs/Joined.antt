-- EQ_JOIN by an index of a name.
use Rattle.std.specs.Prelude.{List}
use Rattle.reql_datum.specs.Answer.{Answer, ◌>>=◌}
use Rattle.reql_datum.specs.Plain.{Plain}
use Rattle.reql_rules.specs.Joining.{eq_join_all}
use Rattle.reql_rules.specs.Lists.{Bytes}
use Rattle.reql_value_spec.specs.Called.{answer_key}
use Rattle.reql_value_spec.specs.Joins.{having}
use Rattle.reql_value_spec.specs.Meant.{Given, Calls}
use Rattle.reql_value_spec.specs.World.{View, entries_named}

-- the pairs of elements with the documents that have their keys
abbrev pub joined_by : View → Bytes → Calls → Given → List Plain → Answer (List Plain)
joined_by v name calls k ls = entries_named v name >>= λ es. eq_join_all (answer_key calls k) (having es) ls
