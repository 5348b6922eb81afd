use Rattle.std.proofs.Common.{◌≡◌, ◌-◌, length, drop}
use Rattle.reql_datum.specs.View.{plain}
use Rattle.reql_rules.specs.Relations.{neighbours, stand_from}
use Rattle.reql_scalar.specs.Stands.{stands}
use Rattle.reql_scalar.proofs.relating.all_stand.Given as goal

abbrev pub invariant-loop-next : goal.invariant-loop-next
invariant-loop-next l = stand_from (stands l.op) (plain l.last) (drop l.place l.args) ≡ neighbours (stands l.op) l.args

abbrev pub decreases-loop-next : goal.decreases-loop-next
decreases-loop-next l = length l.args - l.place
