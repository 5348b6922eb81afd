use Rattle.std.proofs.Common.{◌≡◌, drop, map}
use Rattle.reql_session_spec.specs.Books.{feed_of}
use Rattle.reql_open_cursors.specs.Kept.{feed_kept}
use Rattle.reql_open_cursors.proofs.feeds.place_of.Given as goal

abbrev pub invariant-loop-place : goal.invariant-loop-place
invariant-loop-place l = feed_of l.token (map feed_kept (drop l.place l.feeds)) ≡ feed_of l.token (map feed_kept l.feeds)
