use Rattle.reql_datum.proofs.Walks.{rest_of}
use Rattle.reql_catalog.proofs.map.NameMap.at.Goals as goal

pub returns-clause-rest : goal.returns-clause-rest
returns-clause-rest g c = rest_of (λ m. (m.0.now, m.1.now)) c.seek.result c.args.self.now c.args.place c.seek.ensures.found
