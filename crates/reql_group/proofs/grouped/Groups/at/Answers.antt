use Rattle.std.proofs.Common.{Bor}
use Rattle.reql_datum.specs.View.{plain}
use Rattle.reql_datum.specs.declared.datum.Datum.{Datum}
use Rattle.reql_datum.proofs.Walks.{rest_of}
use Rattle.reql_group.proofs.grouped.Groups.at.Goals as goal

pub returns-clause-rest : goal.returns-clause-rest
returns-clause-rest c = rest_of (λ (g : Bor Datum × Bor Datum). (plain g.0.now, plain g.1.now)) c.seek.result c.args.self.now c.args.place c.seek.ensures.found
