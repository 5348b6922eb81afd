use Rattle.reql_table_machine_spec.proofs.Telling.{takes_tell_skips, takes_lie_in_order}
use Rattle.reql_table_machine_spec.proofs.Placing.{takes_are_placed}
use Rattle.reql_table_machine_spec.proofs.Shutting.{shut_where_dropped}
use Rattle.reql_table_machine_spec.proofs.laws.takes_tell_skips.Goals as goal

pub returns : goal.returns
returns g c = record { told = takes_tell_skips g.F.Meaning.feeding; laid = takes_lie_in_order g.F.Meaning.feeding; placed = takes_are_placed g.F.Meaning.feeding; shut = shut_where_dropped g.F.Meaning.feeding }
