use denote.Param.Send.{sendable}
use Rattle.reql_table_spec.proofs.Sends.{spec_send}
use Rattle.reql_table_spec.proofs.threads.requests_of_feeds_cross_threads.Goals as goal

pub is_send-requires-send-T : goal.is_send-requires-send-T
is_send-requires-send-T c κs = let s = spec_send in search sendable
