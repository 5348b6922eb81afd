use denote.Param.Send.{sendable}
use Rattle.reql_write_spec.proofs.Sends.{write_send}
use Rattle.reql_write_spec.proofs.threads.writes_cross_threads.Goals as goal

pub is_send-requires-send-T : goal.is_send-requires-send-T
is_send-requires-send-T c κs = let s = write_send in search sendable
