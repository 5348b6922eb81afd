use Rattle.reql_plan_spec.proofs.Minding as minding
use Rattle.reql_plan_spec.proofs.laws.plans_mind.Goals as goal

pub returns : goal.returns
returns c = minding.plans_mind
