use Rattle.std.proofs.Common.{◌≡◌, ◌-◌, drop, length}
use Rattle.reql_table_spec.specs.Followed.{options}
use Rattle.reql_term.specs.Form.{named_of}
use Rattle.reql_feed_read.specs.Asked.{are_taken}
use Rattle.reql_feed_read.proofs.part.are_taken.Given as goal

abbrev pub decreases-loop-name : goal.decreases-loop-name
decreases-loop-name l = length l.opts - l.place

abbrev pub invariant-loop-name : goal.invariant-loop-name
invariant-loop-name l = are_taken (options (named_of (drop l.place l.opts))) ≡ are_taken (options (named_of l.opts))
