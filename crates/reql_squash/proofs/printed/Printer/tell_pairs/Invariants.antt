use Rattle.std.proofs.Common.{◌≡◌, ◌++◌, drop}
use Rattle.reql_feed_spec.specs.Items.{paired}
use Rattle.reql_squash.specs.Told.{items_seen, told}
use Rattle.reql_squash.proofs.printed.Printer.tell_pairs.Given as goal

abbrev pub invariant-loop-place : goal.invariant-loop-place
invariant-loop-place l = items_seen l.out.items ++ told l.self.stamp l.self.types (paired (drop l.place l.left) (drop l.place l.came)) ≡ items_seen l.initial.out.items ++ told l.self.stamp l.self.types (paired l.left l.came)
