use Rattle.std.proofs.Common.{map}
use Rattle.reql_plan_results.specs.Seen.{arm, item}
use Rattle.reql_session_api.specs.Meant.{arms_of}
use Rattle.reql_planner.proofs.Items.{fed}
use Rattle.reql_planner.proofs.answering.fed.Goals as goal

pub returns : goal.returns
returns c = fed (arms_of c.in_ok-arms.arms.items) c.from_vec.result c.args.notes.items c.in_ok-items.items.items (map arm c.args.known.now) (map item c.args.first.now) c.from_vec.ensures c.in_ok-arms.ensures c.in_ok-items.ensures
