use Rattle.reql_value_spec.proofs.Stages.{go_by_element}
use Rattle.reql_value_spec.proofs.laws.stage_law.Goals as goal

pub returns : goal.returns
returns c = go_by_element
