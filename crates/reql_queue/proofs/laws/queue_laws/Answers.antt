use Rattle.reql_queue.proofs.Records.{takes}
use Rattle.reql_queue.proofs.laws.queue_laws.Goals as goal

pub returns-clause-takes : goal.returns-clause-takes
returns-clause-takes g c = takes g.row.T.Denot g.row.I.Denot g.row.K.Denot
