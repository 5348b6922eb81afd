use Rattle.std.proofs.Common.{◌+◌, ◌*◌}
use Rattle.reql_term.specs.Form.{weight, list_weight}
use Rattle.reql_term.specs.View.{form_of}
use Rattle.reql_reads.proofs.chain.+chain.Given as goal

abbrev pub decreases-is_chain : goal.decreases-is_chain
decreases-is_chain l = 2 * weight (form_of l.term.now)

abbrev pub decreases-first_is_chain : goal.decreases-first_is_chain
decreases-first_is_chain l = 2 * list_weight l.terms.now + 1
