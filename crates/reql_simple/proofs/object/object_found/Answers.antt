use Rattle.reql_term_analysis.specs.Bound.{bound}
use Rattle.reql_simple.proofs.object.object_found.Goals as goal

pub returns-in-Ok : goal.returns-in-Ok
returns-in-Ok c = c.object_within.ensures c.args.terms.now (bound c.args.vars.now) c.in-Ok.ensures
