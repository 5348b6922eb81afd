use Rattle.reql_table_machine_spec.proofs.Ending.{feeds_come_and_go, unsubscribes_are_told}
use Rattle.reql_table_machine_spec.proofs.laws.feeds_come_and_go.Goals as goal

pub returns : goal.returns
returns g c = record { feeds = feeds_come_and_go g.F.Meaning.feeding; closed = unsubscribes_are_told g.F.Meaning.feeding }
