use Rattle.std.proofs.Common.{◌+◌, ◌-◌, length, drop}
use Rattle.reql_bag.specs.Bag.{less_all}
use Rattle.reql_bag.proofs.Merging.{Merges}
use Rattle.reql_bag.proofs.bag.difference.Given as goal

abbrev pub invariant-loop-old : goal.invariant-loop-old
invariant-loop-old l = Merges l.left l.came (drop l.from l.olds) (drop l.to l.news) (less_all l.olds l.news) (less_all l.news l.olds)

abbrev pub decreases-loop-old : goal.decreases-loop-old
decreases-loop-old l = (length l.olds - l.from) + (length l.news - l.to)
