use Rattle.reql_table_machine_spec.proofs.Tables.{all_fed}
use Rattle.reql_table_machine_spec.proofs.laws.feeds_fold.Goals as goal

pub returns : goal.returns
returns g c = all_fed g.F.Meaning.feeding g.F.Meaning.good g.F.Meaning.may
