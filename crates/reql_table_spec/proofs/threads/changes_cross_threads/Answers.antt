use denote.Param.Send.{sendable}
use Rattle.reql_table_spec.proofs.Sends.{kept_send}
use Rattle.reql_table_spec.proofs.threads.changes_cross_threads.Goals as goal

pub is_send-requires-send-T : goal.is_send-requires-send-T
is_send-requires-send-T c κs = let s = kept_send in search sendable
