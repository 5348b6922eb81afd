use Rattle.std.proofs.Common.{◌+◌, ◌*◌}
use Rattle.reql_term.specs.Form.{weight, list_weight}
use Rattle.reql_term.specs.View.{form_of}
use Rattle.reql_faults.proofs.shape.+range.Given as goal

abbrev pub decreases-is_range : goal.decreases-is_range
decreases-is_range l = 2 * weight (form_of l.term.now)

abbrev pub decreases-is_first_range : goal.decreases-is_first_range
decreases-is_first_range l = 2 * list_weight l.args.now + 1
