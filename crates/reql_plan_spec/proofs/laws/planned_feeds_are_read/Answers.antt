use Rattle.reql_plan_spec.proofs.Carried as carried
use Rattle.reql_plan_spec.proofs.Opens.{asked_feeds_are_read}
use Rattle.reql_plan_spec.proofs.laws.planned_feeds_are_read.Goals as goal

pub returns-clause-changes : goal.returns-clause-changes
returns-clause-changes c = carried.planned_feeds_are_read

pub returns-clause-asked : goal.returns-clause-asked
returns-clause-asked c = asked_feeds_are_read
