use Rattle.std.proofs.Common.{◌≡◌, map, take}
use Rattle.reql_plan_results.specs.Seen.{arm}
use Rattle.reql_session_api.specs.Meant.{arms_of}
use Rattle.reql_query_session_spec.specs.Told.{arm_of}
use Rattle.reql_planner.proofs.listing.arms_of.Given as goal

abbrev pub invariant-loop-one : goal.invariant-loop-one
invariant-loop-one l = arms_of l.arms.items ≡ map arm_of (map arm (take l.one-index l.known))
