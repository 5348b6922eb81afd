use denote.Param.Send.{sendable}
use Rattle.reql_table_spec.proofs.Sends.{order_send, entry_send}
use Rattle.reql_table_spec.proofs.threads.commands_cross_threads.Goals as goal

pub is_send-requires-send-T : goal.is_send-requires-send-T
is_send-requires-send-T c κs = let s = order_send in search sendable

pub is_send-requires-2-send-T : goal.is_send-requires-2-send-T
is_send-requires-2-send-T c κs = let s = entry_send in search sendable
