use Rattle.reql_table_spec.proofs.Replays.{shut_where_dropped}
use Rattle.reql_table_spec.proofs.Weaves.{takes_tell, takes_lie, takes_placed}
use Rattle.reql_table_spec.proofs.laws.takes_tell_skips.Goals as goal

pub returns : goal.returns
returns c = record { told = takes_tell; laid = takes_lie; placed = takes_placed; shut = shut_where_dropped }
