use Rattle.std.proofs.Common.{◌≡◌, ◌-◌, ◌++◌, length, drop}
use Rattle.reql_squash.specs.Told.{items_seen, told, groups_net}
use Rattle.reql_squash.proofs.joining.tell_groups.Given as goal

abbrev pub invariant-loop-members : goal.invariant-loop-members
invariant-loop-members l = items_seen l.out.items ++ told l.printer.stamp l.printer.types (groups_net (drop l.place l.groups)) ≡ items_seen l.initial.out.items ++ told l.printer.stamp l.printer.types (groups_net l.groups)

abbrev pub decreases-loop-members : goal.decreases-loop-members
decreases-loop-members l = length l.groups - l.place
