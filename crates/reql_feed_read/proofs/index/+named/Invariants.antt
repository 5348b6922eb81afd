use Rattle.std.proofs.Common.{◌+◌, ◌*◌}
use Rattle.reql_term.specs.Form.{weight, list_weight}
use Rattle.reql_term.specs.View.{form_of}
use Rattle.reql_feed_read.proofs.index.+named.Given as goal

abbrev pub decreases-names_index : goal.decreases-names_index
decreases-names_index l = 2 * weight (form_of l.term.now)

abbrev pub decreases-first_names_index : goal.decreases-first_names_index
decreases-first_names_index l = 2 * list_weight l.args.now + 1
