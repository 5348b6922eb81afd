use Rattle.std.proofs.Common.{◌+◌, ◌*◌}
use Rattle.reql_term.specs.Form.{weight, list_weight}
use Rattle.reql_term.specs.View.{form_of}
use Rattle.reql_plan_changes.proofs.index.+index.Given as goal

abbrev pub decreases-shape_index : goal.decreases-shape_index
decreases-shape_index l = 2 * weight (form_of l.term.now)

abbrev pub decreases-first_index : goal.decreases-first_index
decreases-first_index l = 2 * list_weight l.terms.now + 1
