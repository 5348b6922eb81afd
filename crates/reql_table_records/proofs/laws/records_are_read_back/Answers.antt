use Rattle.reql_table_records.proofs.Back.{reads_back}
use Rattle.reql_table_records.proofs.laws.records_are_read_back.Goals as goal

pub returns : goal.returns
returns c = reads_back
