use denote.Param.Send.{sendable}
use Rattle.reql_table.proofs.Sends.{prepared_send, prepared_sync}
use Rattle.reql_table.proofs.threads.prepared_cross.Goals as goal

pub crosses-requires-send-T : goal.crosses-requires-send-T
crosses-requires-send-T c κs = let s = prepared_send in search sendable

pub crosses-requires-sync-T : goal.crosses-requires-sync-T
crosses-requires-sync-T c κs = let s = prepared_sync in search sendable
