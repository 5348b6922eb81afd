use Rattle.std.proofs.Common.{◌≡◌, ◌-◌, drop, length, map}
use Rattle.reql_session_spec.specs.Books.{feed_of}
use Rattle.reql_open_cursors.specs.Kept.{feed_kept}
use Rattle.reql_open_cursors.proofs.feeds.find.Given as goal

abbrev pub invariant-loop-feed : goal.invariant-loop-feed
invariant-loop-feed l = feed_of l.token (map feed_kept (drop l.place l.feeds)) ≡ feed_of l.token (map feed_kept l.feeds)

abbrev pub decreases-loop-feed : goal.decreases-loop-feed
decreases-loop-feed l = length l.feeds - l.place
