use Rattle.reql_table_machine_spec.proofs.Sampled.{rows}
use Rattle.reql_table_machine_spec.proofs.rows.worked_rows.Goals as goal

pub returns : goal.returns
returns c = rows
