use Rattle.std.proofs.Common.{◌≡◌}
use Rattle.reql_feeds.specs.Seen.{all_sized}
use Rattle.reql_feeds.proofs.Places.{Roomy}
use Rattle.reql_feeds.proofs.drafting.reserve_all.Given as goal

abbrev pub invariant-loop-place : goal.invariant-loop-place
invariant-loop-place g l = (all_sized l.entries ≡ all_sized l.initial.entries) × Roomy l.entries l.shadows l.place
