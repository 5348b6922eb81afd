use Rattle.std.proofs.Common.{Bor}
use Rattle.reql_term.specs.View.{form_of}
use Rattle.reql_term.specs.declared.term.Term.{Term}
use Rattle.reql_datum.proofs.Walks.{rest_of}
use Rattle.reql_term.proofs.term.Terms.at.Goals as goal

pub returns-clause-rest : goal.returns-clause-rest
returns-clause-rest c = rest_of (λ (d : Bor Term). form_of d.now) c.seek.result c.args.self.now c.args.place c.seek.ensures.found
