-- Totals of elements as they are, and of what a key gives of them.
use Rattle.std.specs.Prelude.{List, Ok}
use Rattle.reql_datum.specs.Answer.{Answer, ◌>>=◌}
use Rattle.reql_datum.specs.Plain.{Plain}
use Rattle.reql_rules.specs.Totals.{total}
use Rattle.reql_rules.specs.declared.words.Total.{Total}
use Rattle.reql_value_spec.specs.Called.{answer_key}
use Rattle.reql_value_spec.specs.Meant.{Given, Calls}
use Rattle.reql_value_spec.specs.Wanted.{as_sequence}
use Rattle.reql_value_spec.specs.World.{World}

-- an element as it is
abbrev pub itself : Plain → Answer Plain
itself v = Ok v

abbrev pub total_by : Total → World → Calls → Given → Given → Answer Plain
total_by op w calls s k = as_sequence w s >>= λ ds. total op (answer_key calls k) ds
