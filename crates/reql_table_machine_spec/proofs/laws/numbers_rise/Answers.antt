use Rattle.reql_table_machine_spec.proofs.Rising.{numbers_from_rise}
use Rattle.reql_table_machine_spec.proofs.laws.numbers_rise.Goals as goal

pub returns : goal.returns
returns g c = numbers_from_rise g.F.Meaning.feeding
