use Rattle.std.proofs.Common.{◌+◌, ◌*◌, ◌-◌, length, drop}
use Rattle.reql_datum.specs.Plain.{pairs_of, weight, members_weight}
use Rattle.reql_datum.specs.Members.{AreRising}
use Rattle.reql_datum.specs.View.{plain}
use Rattle.reql_rules.specs.Merging.{merged_pairs}
use Rattle.reql_path.proofs.Merged.{Merges}
use Rattle.reql_path.proofs.merging.+merge.Given as goal

abbrev pub decreases-merged : goal.decreases-merged
decreases-merged l = 4 * weight (plain l.new.now) + 3

abbrev pub decreases-merged_object : goal.decreases-merged_object
decreases-merged_object l = 4 * members_weight l.new.now + 2

abbrev pub decreases-merged_onto : goal.decreases-merged_onto
decreases-merged_onto l = 4 * members_weight l.new.now + 1

abbrev pub decreases-merged_fields : goal.decreases-merged_fields
decreases-merged_fields l = 4 * members_weight l.new.now

abbrev pub invariant-merged_fields-loop-name : goal.invariant-merged_fields-loop-name
invariant-merged_fields-loop-name l = AreRising l.old → AreRising l.new → Merges l.fields (drop l.from l.old) (drop l.to l.new) (merged_pairs (pairs_of l.new) l.old)

abbrev pub decreases-merged_fields-loop-name : goal.decreases-merged_fields-loop-name
decreases-merged_fields-loop-name l = (length l.old - l.from) + (length l.new - l.to)
