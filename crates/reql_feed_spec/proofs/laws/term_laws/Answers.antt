use Rattle.reql_feed_spec.proofs.Watched.{follow_shapes}
use Rattle.reql_feed_spec.proofs.laws.term_laws.Goals as goal

pub returns-clause-ranges : goal.returns-clause-ranges
returns-clause-ranges c = follow_shapes
