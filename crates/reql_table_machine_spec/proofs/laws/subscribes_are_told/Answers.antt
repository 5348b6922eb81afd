use Rattle.reql_table_machine_spec.proofs.Subscribing.{subscribes_are_placed}
use Rattle.reql_table_machine_spec.proofs.laws.subscribes_are_told.Goals as goal

pub returns : goal.returns
returns g c = subscribes_are_placed g.F.Meaning.feeding
