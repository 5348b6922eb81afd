use Rattle.reql_print.proofs.Distinct.{distinct_true}
use Rattle.reql_print.proofs.held.params_are_distinct.Goals as goal

pub returns : goal.returns
returns c = distinct_true c.args.params.now c.as_slice-distinct.ensures.distinct
