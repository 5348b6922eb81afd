use denote.Param.Send.{sendable}
use Rattle.reql_open_feed.proofs.Sends.{open_feed_send}
use Rattle.reql_open_feed.proofs.threads.open_feeds_cross_threads.Goals as goal

pub is_send-requires-send-T : goal.is_send-requires-send-T
is_send-requires-send-T c κs = let s = open_feed_send in search sendable
