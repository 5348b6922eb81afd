use Rattle.std.proofs.Common.{◌≡◌, ◌-◌, ◌++◌, drop, length, Ok}
use Rattle.reql_datum.specs.Answer.{◌>>=◌}
use Rattle.reql_table_spec.specs.Followed.{options, closed_options}
use Rattle.reql_operand.specs.Seen.{all_chosen}
use Rattle.reql_term.specs.Form.{named_of}
use Rattle.reql_value_spec.specs.World.{bare_world}
use Rattle.reql_feed_read.proofs.closed.closed_all.Given as goal

abbrev pub decreases-loop-name : goal.decreases-loop-name
decreases-loop-name l = length l.opts - l.place

abbrev pub invariant-loop-name : goal.invariant-loop-name
invariant-loop-name l =
    closed_options (options (named_of l.opts)) ≡ (closed_options (options (named_of (drop l.place l.opts))) >>= λ os. Ok (all_chosen bare_world l.choices.items ++ os))
