use denote.Param.Send.{sendable}
use Rattle.reql_feed_read.proofs.Sends.{follows_send}
use Rattle.reql_feed_read.proofs.threads.what_feeds_follow_crosses_threads.Goals as goal

pub is_send-requires-send-T : goal.is_send-requires-send-T
is_send-requires-send-T c κs = let s = follows_send in search sendable
