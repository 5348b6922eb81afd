use Rattle.reql_plan_spec.proofs.Follows.{points_are_read, ranges_are_read}
use Rattle.reql_plan_spec.proofs.Limits.{limits_are_read}
use Rattle.reql_plan_spec.proofs.Opened.{feeds_are_read}
use Rattle.reql_plan_spec.proofs.laws.feeds_are_read.Goals as goal

pub returns-clause-ranges : goal.returns-clause-ranges
returns-clause-ranges c = ranges_are_read

pub returns-clause-points : goal.returns-clause-points
returns-clause-points c = points_are_read

pub returns-clause-limits : goal.returns-clause-limits
returns-clause-limits c = limits_are_read

pub returns-clause-feeds : goal.returns-clause-feeds
returns-clause-feeds c = feeds_are_read
