use denote.Param.Send.{sendable}
use Rattle.reql_run.proofs.Sends.{engine_planner_sync}
use Rattle.reql_run.proofs.threads.threads_share_planners.Goals as goal

pub is_sync-requires-sync-T : goal.is_sync-requires-sync-T
is_sync-requires-sync-T c κs = let s = engine_planner_sync in search sendable
