use Rattle.std.proofs.Common.{◌≡◌, ◌++◌, drop, map}
use Rattle.reql_plan_context.specs.Seen.{held}
use Rattle.reql_plan_spec.specs.Course.{arm_of}
use Rattle.reql_plan_results.specs.Seen.{opened, arm}
use Rattle.reql_plan_changes.proofs.asking.arms_of.Given as goal

abbrev pub invariant-loop-one : goal.invariant-loop-one
invariant-loop-one g l =
    let e = held g.V.TableView.documents g.V.TableView.indexes g.V.TableView.entries l.request in
    map arm l.arms.items ++ map (arm_of e) (map opened (drop l.one-index l.open)) ≡ map (arm_of e) (map opened l.open)
