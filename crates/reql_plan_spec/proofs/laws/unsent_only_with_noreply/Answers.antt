use Rattle.reql_plan_spec.proofs.Unsent as unsent
use Rattle.reql_plan_spec.proofs.laws.unsent_only_with_noreply.Goals as goal

pub returns : goal.returns
returns c = unsent.unsent_only_with_noreply
