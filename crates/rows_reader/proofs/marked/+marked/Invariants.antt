use Rattle.std.proofs.Common.{length, ◌-◌}
use Rattle.reql_datum.specs.Plain.{weight, list_weight, members_weight}
use Rattle.reql_datum.specs.View.{plain}
use Rattle.rows_reader.proofs.marked.+marked.Given as goal

abbrev pub decreases-marked : goal.decreases-marked
decreases-marked l = weight (plain l.document.now)

abbrev pub decreases-marked_items : goal.decreases-marked_items
decreases-marked_items l = list_weight l.items.now

abbrev pub decreases-marked_fields : goal.decreases-marked_fields
decreases-marked_fields l = members_weight l.fields.now

abbrev pub decreases-marked_items-loop-item : goal.decreases-marked_items-loop-item
decreases-marked_items-loop-item l = length l.items - l.place

abbrev pub decreases-marked_fields-loop-name : goal.decreases-marked_fields-loop-name
decreases-marked_fields-loop-name l = length l.fields - l.place
