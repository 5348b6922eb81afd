use Rattle.reql_term.specs.Form.{weight}
use Rattle.reql_term.specs.View.{form_of}
use Rattle.reql_term_analysis.proofs.kinds.+callee.Given as goal

abbrev pub decreases-callee : goal.decreases-callee
decreases-callee l = weight (form_of l.term.now)
