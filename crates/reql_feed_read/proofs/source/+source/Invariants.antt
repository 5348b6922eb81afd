use Rattle.std.proofs.Common.{◌+◌, ◌*◌}
use Rattle.reql_term.specs.Form.{weight, list_weight}
use Rattle.reql_term.specs.View.{form_of}
use Rattle.reql_feed_read.proofs.source.+source.Given as goal

abbrev pub decreases-read_source : goal.decreases-read_source
decreases-read_source l = 2 * weight (form_of l.term.now)

abbrev pub decreases-first_source : goal.decreases-first_source
decreases-first_source l = 2 * list_weight l.args.now + 1
