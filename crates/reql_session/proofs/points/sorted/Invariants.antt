use Rattle.std.proofs.Common.{◌≡◌, [], drop}
use Rattle.reql_desk_moves.specs.Steps.{put_points}
use Rattle.reql_session.proofs.points.sorted.Given as goal

abbrev pub invariant-loop-point : goal.invariant-loop-point
invariant-loop-point l = put_points l.sorted.items (drop l.point-index l.points) ≡ put_points [] l.points
