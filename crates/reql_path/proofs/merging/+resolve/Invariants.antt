use Rattle.std.proofs.Common.{◌+◌, ◌*◌, ◌-◌, length, drop}
use Rattle.reql_datum.specs.Plain.{weight, members_weight}
use Rattle.reql_datum.specs.Members.{AreRising}
use Rattle.reql_datum.specs.View.{plain}
use Rattle.reql_path.proofs.Resolved.{Resolves, resolved_list}
use Rattle.reql_path.proofs.merging.+resolve.Given as goal

abbrev pub decreases-resolved : goal.decreases-resolved
decreases-resolved l = 3 * weight (plain l.value.now) + 2

abbrev pub decreases-resolved_object : goal.decreases-resolved_object
decreases-resolved_object l = 3 * members_weight l.object.now + 1

abbrev pub decreases-resolved_fields : goal.decreases-resolved_fields
decreases-resolved_fields l = 3 * members_weight l.members.now

abbrev pub invariant-resolved_fields-loop-name : goal.invariant-resolved_fields-loop-name
invariant-resolved_fields-loop-name l = AreRising l.members → Resolves l.fields (drop l.place l.members) (resolved_list l.members)

abbrev pub decreases-resolved_fields-loop-name : goal.decreases-resolved_fields-loop-name
decreases-resolved_fields-loop-name l = length l.members - l.place
