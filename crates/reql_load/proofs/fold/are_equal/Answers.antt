use Rattle.reql_load.proofs.Places.{equal_seen}
use Rattle.reql_load.proofs.fold.are_equal.Goals as goal

pub returns : goal.returns
returns c = equal_seen c.args.list.now c.args.wanted.now c.eq.result c.eq.ensures
