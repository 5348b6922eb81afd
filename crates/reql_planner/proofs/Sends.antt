-- Threads may share what sessions ask of planning: it holds no engine.
use denote.RattleType.{RattleType}
use denote.Param.Send.{IsSync, sendable}
use Rattle.std.proofs.Crossing.{crosses}
use Rattle.reql_planner.specs.contracts.planner.QueryPlanner as planner

pub planner_sync : (C : RattleType) → IsSync (planner.the_row C)
planner_sync C = search (sendable, crosses) depth 20
