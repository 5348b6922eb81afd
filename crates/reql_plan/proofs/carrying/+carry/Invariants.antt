use Rattle.reql_term.specs.Form.{weight}
use Rattle.reql_term.specs.View.{form_of}
use Rattle.reql_plan.proofs.carrying.+carry.Given as goal

abbrev pub decreases-carried : goal.decreases-carried
decreases-carried g l = weight (form_of l.term.now)
