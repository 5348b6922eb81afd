use Rattle.std.proofs.Common.{sym, ap}
use Rattle.reql_planner.specs.Follows.{is_none}
use Rattle.reql_planner.proofs.Stating.{begun_so}
use Rattle.reql_planner.proofs.course.QueryCourse.new.Goals as goal

pub invariant_of-result : goal.invariant_of-result
invariant_of-result g c = record {
  starts = ap (λ ys. is_none ys) (sym c.new.ensures);
  follows = begun_so g.V.TableView.documents g.V.TableView.indexes g.V.TableView.entries c.args.plan c.of-told.result.value c.args.setting c.new-2.result c.new.result.items c.of-told.ensures c.new.ensures c.new-2.ensures.left c.new-2.ensures.quiet;
}
