use Rattle.reql_plan_spec.proofs.Theirs.{openings_are_theirs, planned_openings_are_theirs, asked_openings_are_theirs}
use Rattle.reql_plan_spec.proofs.laws.openings_are_theirs.Goals as goal

pub returns-clause-changes : goal.returns-clause-changes
returns-clause-changes c = openings_are_theirs

pub returns-clause-planned : goal.returns-clause-planned
returns-clause-planned c = planned_openings_are_theirs

pub returns-clause-asked : goal.returns-clause-asked
returns-clause-asked c = asked_openings_are_theirs
