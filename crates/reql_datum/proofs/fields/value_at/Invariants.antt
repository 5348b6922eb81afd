use Rattle.std.proofs.Common.{◌≡◌, ◌-◌, length, map, drop}
use Rattle.reql_datum.specs.Members.{find}
use Rattle.reql_datum.specs.View.{member}
use Rattle.reql_datum.proofs.fields.value_at.Given as goal

abbrev pub invariant-loop-field : goal.invariant-loop-field
invariant-loop-field l = find l.name (map member (drop l.place l.members)) ≡ find l.name (map member l.members)

abbrev pub decreases-loop-field : goal.decreases-loop-field
decreases-loop-field l = length l.members - l.place
