use Rattle.std.proofs.Common.{◌≡◌, ◌++◌, ◌-◌, drop, length}
use Rattle.reql_session_spec.specs.Requests.{put_point}
use Rattle.reql_session.proofs.points.with_point.Given as goal

abbrev pub decreases-loop-place : goal.decreases-loop-place
decreases-loop-place l = length l.points - l.place

abbrev pub invariant-loop-place : goal.invariant-loop-place
invariant-loop-place l = l.below.items ++ put_point l.point (drop l.place l.points) ≡ put_point l.point l.points
