use Rattle.reql_hall.proofs.Dealing.{length_unused}
use Rattle.reql_hall.proofs.opening.share.Goals as goal

pub returns-clause-many : goal.returns-clause-many
returns-clause-many g c = length_unused _ _ c.args.count c.in_ok-shared.ensures.passes c.in_ok-shared.ensures.count
