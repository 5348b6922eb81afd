use Rattle.std.proofs.Common.{◌≡◌, ◌-◌, ◌++◌, drop, length, Ok}
use Rattle.reql_datum.specs.Answer.{◌>>=◌}
use Rattle.reql_table_spec.specs.Followed.{closed_value}
use Rattle.reql_rules.specs.Lists.{each}
use Rattle.reql_feed_read.proofs.source.constants.Given as goal

abbrev pub decreases-loop-term : goal.decreases-loop-term
decreases-loop-term l = length l.args - l.place

abbrev pub invariant-loop-term : goal.invariant-loop-term
invariant-loop-term l = each closed_value (drop 1 l.args) ≡ (each closed_value (drop l.place l.args) >>= λ vs. Ok (l.keys ++ vs))
