use Rattle.std.proofs.Common.{◌≡◌, ◌-◌, drop, length}
use Rattle.reql_term.specs.Form.{named_of}
use Rattle.reql_read.specs.Spelling.{takes_all}
use Rattle.reql_print.proofs.held.takes_all.Given as goal

abbrev pub invariant-loop-name : goal.invariant-loop-name
invariant-loop-name l = takes_all l.op (named_of (drop l.place l.opts)) ≡ takes_all l.op (named_of l.opts)

abbrev pub decreases-loop-name : goal.decreases-loop-name
decreases-loop-name l = length l.opts - l.place
