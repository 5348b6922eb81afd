use Rattle.std.proofs.Common.{◌≡◌, ◌-◌, drop, length}
use Rattle.reql_session_spec.specs.Books.{has_token}
use Rattle.reql_open_cursors.proofs.waiting.waits.Given as goal

abbrev pub invariant-loop-other : goal.invariant-loop-other
invariant-loop-other l = has_token l.token (drop l.place l.waiting) ≡ has_token l.token l.waiting

abbrev pub decreases-loop-other : goal.decreases-loop-other
decreases-loop-other l = length l.waiting - l.place
