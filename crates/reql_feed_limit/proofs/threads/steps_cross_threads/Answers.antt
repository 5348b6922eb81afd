use denote.Param.Send.{sendable}
use Rattle.reql_feed_limit.proofs.Sends.{step_send}
use Rattle.reql_feed_limit.proofs.threads.steps_cross_threads.Goals as goal

pub is_send-requires-send-T : goal.is_send-requires-send-T
is_send-requires-send-T c κs = let s = step_send in search sendable
