use Rattle.std.proofs.Common.{◌≡◌, length}
use Rattle.reql_loading.specs.Loading.{has_part}
use Rattle.reql_loading.proofs.whole.has_part.Given as goal

abbrev pub invariant-loop-first : goal.invariant-loop-first
invariant-loop-first l = has_part l.part l.bytes ≡ has_part l.part l.rest

abbrev pub decreases-loop-first : goal.decreases-loop-first
decreases-loop-first l = length l.rest
