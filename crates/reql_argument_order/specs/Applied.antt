-- The rule of an operator on its arguments, by how it takes groups.
use Rattle.std.specs.Prelude.{List, Bool, if◌then◌else◌}
use Rattle.reql_datum.specs.Answer.{Answer}
use Rattle.reql_term.specs.declared.role.Way.{Way}
use Rattle.reql_value_spec.specs.Meant.{Meant, Given, Calls, Options}
use Rattle.reql_value_spec.specs.World.{World}
use Rattle.reql_apply.specs.declared.kinds.Kind.{Kind}
use Rattle.reql_term_analysis.specs.Ways.{is_whole}
use Rattle.reql_argument_order.specs.Ruled.{ruled, in_groups}

-- the rule at once, or by groups
abbrev pub applied_by : Bool → Kind → World → Calls → Options → List Given → Answer Meant
applied_by whole k w calls opts gs = if whole then ruled k w calls opts gs else in_groups k w calls opts gs

unfoldable pub applied : Way → Kind → World → Calls → Options → List Given → Answer Meant
applied how k w calls opts gs = applied_by (is_whole how) k w calls opts gs
