use Rattle.reql_query_session_spec.specs.Minding as minding
use Rattle.reql_query_session_spec.proofs.Batches.{batches_agree}
use Rattle.reql_query_session_spec.proofs.laws.plans_are_told.Goals as goal

pub returns-clause-told : goal.returns-clause-told
returns-clause-told c = minding.plans_are_told

pub returns-clause-batches : goal.returns-clause-batches
returns-clause-batches c = batches_agree
