use denote.Param.Send.{sendable}
use Rattle.reql_ptree.proofs.Sends.{tree_send, tree_sync}
use Rattle.reql_ptree.proofs.threads.trees_cross.Goals as goal

pub crosses-requires-send-T : goal.crosses-requires-send-T
crosses-requires-send-T c κs = let s = tree_send in search sendable

pub crosses-requires-sync-T : goal.crosses-requires-sync-T
crosses-requires-sync-T c κs = let s = tree_sync in search sendable
