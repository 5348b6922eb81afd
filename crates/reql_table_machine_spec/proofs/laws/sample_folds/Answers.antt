use Rattle.reql_table_machine_spec.proofs.Sampled.{laws}
use Rattle.reql_table_machine_spec.proofs.laws.sample_folds.Goals as goal

pub returns : goal.returns
returns c = laws
