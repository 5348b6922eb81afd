use Rattle.reql_query_session_spec.proofs.Refusing as refusing
use Rattle.reql_query_session_spec.proofs.laws.first_refusal.Goals as goal

pub returns-clause-shape : goal.returns-clause-shape
returns-clause-shape c = refusing.shape_refusal

pub returns-clause-first : goal.returns-clause-first
returns-clause-first c = refusing.first_refusal
