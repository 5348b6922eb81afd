use denote.Param.Send.{sendable}
use Rattle.reql_feed_range.proofs.Sends.{range_send}
use Rattle.reql_feed_range.proofs.threads.range_feeds_cross_threads.Goals as goal

pub is_send-requires-send-T : goal.is_send-requires-send-T
is_send-requires-send-T c κs = let s = range_send in search sendable
