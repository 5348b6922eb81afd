use Rattle.std.proofs.Common.{◌≡◌, ◌+◌, ◌≤◌, drop, map}
use Rattle.reql_write_spec.specs.Write.{count}
use Rattle.reql_write.specs.Counting.{is_of}
use Rattle.reql_write.specs.Seen.{seen}
use Rattle.reql_write.proofs.counting.count.Given as goal

abbrev pub invariant-loop-one : goal.invariant-loop-one
invariant-loop-one l =
    (l.sum + count (is_of l.outcome) (map seen (drop l.one-index l.treated)) ≡ count (is_of l.outcome) (map seen l.treated))
    × (l.sum ≤ l.one-index)
