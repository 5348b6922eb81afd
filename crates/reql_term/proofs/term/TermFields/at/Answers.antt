use Rattle.std.proofs.Common.{ℕ, List, Bor}
use Rattle.reql_term.specs.View.{form_of}
use Rattle.reql_term.specs.declared.term.Term.{Term}
use Rattle.reql_datum.proofs.Walks.{rest_of}
use Rattle.reql_term.proofs.term.TermFields.at.Goals as goal

pub returns-clause-rest : goal.returns-clause-rest
returns-clause-rest c = rest_of (λ (m : Bor (List ℕ) × Bor Term). (m.0.now, form_of m.1.now)) c.seek.result c.args.self.now c.args.place c.seek.ensures.found
