use Rattle.std.proofs.Common.{◌≡◌, ◌++◌, take}
use Rattle.reql_scalar.proofs.parts.append_to.Given as goal

abbrev pub invariant-loop-place : goal.invariant-loop-place
invariant-loop-place l = l.list ≡ l.initial.list ++ take l.place l.more
