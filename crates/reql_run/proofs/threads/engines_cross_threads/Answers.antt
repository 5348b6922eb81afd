use denote.Param.Send.{sendable}
use Rattle.reql_run.proofs.Sends.{engine_send}
use Rattle.reql_run.proofs.threads.engines_cross_threads.Goals as goal

pub is_send-requires-send-T : goal.is_send-requires-send-T
is_send-requires-send-T c κs = let s = engine_send in search sendable
