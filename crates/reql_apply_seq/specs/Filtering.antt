-- What FILTER does on NON_EXISTENCE, by its `default`.
use Rattle.std.specs.Prelude.{Bool, true, false, Option, Some, None, option_map, Ok, Err, codes}
use Rattle.reql_datum.specs.Answer.{Answer, Reason}
use Rattle.reql_rules.specs.Faults.{bad_option}
use Rattle.reql_rules.specs.declared.words.Missing.{Missing}
use Rattle.reql_rules.specs.declared.words.Missing.TheVariants.{Drop, Keep}
use Rattle.reql_operand.specs.Seen.{reason}
use Rattle.reql_apply_seq.specs.declared.filtering.Missed.{Missed}

-- what is done, and the fault that is raised in the place of NON_EXISTENCE
abbrev pub missed_as : Missed → Missing × Option Reason
missed_as m = (m.missing, option_map reason m.instead)

-- the default that is a truth value
abbrev pub by_bool : Option Bool → Answer (Missing × Option Reason)
by_bool None = Err (bad_option (codes "default"))
by_bool (Some true) = Ok (Keep, None)
by_bool (Some false) = Ok (Drop, None)
