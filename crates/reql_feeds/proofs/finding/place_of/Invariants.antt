use Rattle.std.proofs.Common.{◌≡◌, drop}
use Rattle.reql_table_machine_spec.specs.Feeds.{find_feed}
use Rattle.reql_feeds.specs.Keeps.{feeds_of}
use Rattle.reql_feeds.specs.Seen.{all_sized}
use Rattle.reql_feeds.proofs.finding.place_of.Given as goal

abbrev pub invariant-loop-place : goal.invariant-loop-place
invariant-loop-place g l = find_feed l.owner l.number (feeds_of (all_sized (drop l.place l.entries))) ≡ find_feed l.owner l.number (feeds_of (all_sized l.entries))
