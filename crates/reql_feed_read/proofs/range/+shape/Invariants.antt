use Rattle.std.proofs.Common.{◌+◌, ◌*◌}
use Rattle.reql_term.specs.Form.{weight, list_weight}
use Rattle.reql_term.specs.View.{form_of}
use Rattle.reql_feed_read.proofs.range.+shape.Given as goal

abbrev pub decreases-shape_slot : goal.decreases-shape_slot
decreases-shape_slot l = 2 * weight (form_of l.term.now)

abbrev pub decreases-stage_slot : goal.decreases-stage_slot
decreases-stage_slot l = 2 * list_weight l.args.now + 1
