use Rattle.std.proofs.Common.{◌+◌, ◌*◌}
use Rattle.reql_term.specs.Form.{weight}
use Rattle.reql_term.specs.View.{form_of}
use Rattle.reql_term_analysis.specs.Bound.{all_weight}
use Rattle.reql_simple.proofs.terms.+found.Given as goal

abbrev pub decreases-found : goal.decreases-found
decreases-found l = 8 * weight (form_of l.term.now)

abbrev pub decreases-chain : goal.decreases-chain
decreases-chain l = 8 * weight (form_of l.second.now) + 1

abbrev pub decreases-with_second : goal.decreases-with_second
decreases-with_second l = 8 * weight (form_of l.second.now) + 1

abbrev pub decreases-of_one : goal.decreases-of_one
decreases-of_one l = 8 * weight (form_of l.term.now) + 1

abbrev pub decreases-of_two : goal.decreases-of_two
decreases-of_two l = 8 * (weight (form_of l.first.now) + weight (form_of l.second.now)) + 2

abbrev pub decreases-by_role : goal.decreases-by_role
decreases-by_role l = 8 * all_weight l.terms.now + 3

abbrev pub decreases-of_operator : goal.decreases-of_operator
decreases-of_operator l = 8 * all_weight l.terms.now + 4
