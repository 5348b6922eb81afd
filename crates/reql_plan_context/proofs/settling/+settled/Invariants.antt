use Rattle.std.proofs.Common.{◌+◌, ◌*◌}
use Rattle.reql_term.specs.Form.{weight, list_weight}
use Rattle.reql_term.specs.View.{form_of}
use Rattle.reql_plan_context.proofs.settling.+settled.Given as goal

abbrev pub decreases-settled : goal.decreases-settled
decreases-settled g l = 2 * weight (form_of l.term.now)

abbrev pub decreases-first_settled : goal.decreases-first_settled
decreases-first_settled g l = 2 * list_weight l.terms.now + 1
