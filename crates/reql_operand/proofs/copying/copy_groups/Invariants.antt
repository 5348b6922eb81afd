use Rattle.std.proofs.Common.{◌≡◌, ◌++◌, drop, map}
use Rattle.reql_operand.specs.Seen.{group}
use Rattle.reql_operand.proofs.copying.copy_groups.Given as goal

abbrev pub invariant-loop-g : goal.invariant-loop-g
invariant-loop-g l = map group l.copies.items ++ map group (drop l.g-index l.groups) ≡ map group l.groups
