use Rattle.std.proofs.Common.{◌≡◌, ◌++◌, List, map, get_or}
use Rattle.std.specs.Vec.Iter.{into_iter_items}
use Rattle.reql_datum.specs.View.{plain}
use Rattle.reql_session_spec.specs.Requests.{Arm}
use Rattle.reql_session_spec.specs.Tasks.{change_items}
use Rattle.reql_session_api.specs.Meant.{no_arm, shown_of}
use Rattle.reql_session.proofs.skipped.put_changes.Given as goal

abbrev pub invariant-loop-stamp : goal.invariant-loop-stamp
invariant-loop-stamp l =
    (l.yielded ++ into_iter_items l.stamp-iterator ≡ into_iter_items l.initial.stamp-iterator)
    × ((arms : List Arm) → map (shown_of arms) l.shown.items ≡ map (shown_of arms) l.initial.shown.items ++ change_items l.at (get_or arms l.at no_arm) (map (λ i. (i.0, plain i.1)) l.yielded))
