-- What is left of a term once its first argument was evaluated, by names that stand alone in clauses.
use Rattle.std.specs.Prelude.{List, drop, Ok}
use Rattle.reql_datum.specs.Answer.{Answer, ◌>>=◌}
use Rattle.reql_datum.specs.Plain.{null}
use Rattle.reql_term.specs.declared.role.Way.{Way}
use Rattle.reql_value_spec.specs.Lazy.{unless_nothing, told, or_caught}
use Rattle.reql_value_spec.specs.Meant.{Meant, one}
use Rattle.reql_value_spec.specs.Sense.{Sense}
use Rattle.reql_value_spec.specs.Sequenced.{sized}
use Rattle.reql_value_spec.specs.World.{World, Vars}
use Rattle.reql_term_analysis.specs.Ways.{tail}

-- DEFAULT where the first is there: it, or the second where it is null, within the limits
unfoldable pub kept : Sense → World → Vars → Meant → Answer Meant
kept s w vars m = unless_nothing s w vars m >>= sized w.array_limit

-- the second, told of null; null again, where an ERROR without text ends it
abbrev pub if_null : Sense → World → Vars → Answer Meant
if_null s w vars = or_caught (Ok (one null)) (told s w vars null)

-- the other arguments of AND, OR and BRANCH
unfoldable pub others : Way → List Sense → World → Vars → Meant → Answer Meant
others how ss w vars m = tail how (drop 1 ss) w vars m
