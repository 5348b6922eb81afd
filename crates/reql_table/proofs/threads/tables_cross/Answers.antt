use denote.Param.Send.{sendable}
use Rattle.reql_table.proofs.Sends.{table_send, table_sync}
use Rattle.reql_table.proofs.threads.tables_cross.Goals as goal

pub crosses-requires-send-T : goal.crosses-requires-send-T
crosses-requires-send-T c κs = let s = table_send in search sendable

pub crosses-requires-sync-T : goal.crosses-requires-sync-T
crosses-requires-sync-T c κs = let s = table_sync in search sendable
