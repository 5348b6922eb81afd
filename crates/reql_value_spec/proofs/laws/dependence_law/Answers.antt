use Rattle.reql_value_spec.proofs.Depends.{values_depend, functions_depend}
use Rattle.reql_value_spec.proofs.laws.dependence_law.Goals as goal

pub returns-clause-values : goal.returns-clause-values
returns-clause-values c = values_depend

pub returns-clause-functions : goal.returns-clause-functions
returns-clause-functions c = functions_depend
