use Rattle.std.proofs.Common.{Bool, sym, subst}
use Rattle.reql_plan_steps.specs.Heard.{heard}
use Rattle.reql_planner.specs.Follows.{heard_in, MayFollow}
use Rattle.reql_planner.proofs.Stating.{gone}
use Rattle.reql_planner.proofs.course.QueryCourse.go.Goals as goal

pub returns-clause-goes : goal.returns-clause-goes
returns-clause-goes g c = (gone g.V.TableView.documents g.V.TableView.indexes g.V.TableView.entries c.args.self.now.plan.value c.hear.new.self.plan.value c.args.self.now.setting c.hear.new.self.setting c.args.self.now.seen.items c.hear.new.self.seen.items c.args.found c.hear.result c.args.self.now.is_over
    c.args.self.now.course c.hear.new.self.course c.next.new.self (heard g.V.TableView.documents g.V.TableView.indexes c.heard.result) c.in_ok-next.next
    c.if-hear.false c.hear.ensures.was c.hear.ensures.plan c.hear.ensures.setting c.hear.ensures.seen c.hear.ensures.course c.heard.ensures c.args.self.now.follows c.in_ok-next.ensures.goes c.in_ok-next.ensures.quiet).0

pub invariant_of-self-2 : goal.invariant_of-self-2
invariant_of-self-2 g c = record {
  starts = c.hear.new.self.starts;
  follows = subst (λ (b : Bool). MayFollow g.V.TableView.documents g.V.TableView.indexes g.V.TableView.entries c.hear.new.self.plan.value c.hear.new.self.setting (heard_in g.V.TableView.documents g.V.TableView.indexes c.hear.new.self.seen.items) b c.next.new.self) (sym c.is_answer-self.ensures) (gone g.V.TableView.documents g.V.TableView.indexes g.V.TableView.entries c.args.self.now.plan.value c.hear.new.self.plan.value c.args.self.now.setting c.hear.new.self.setting c.args.self.now.seen.items c.hear.new.self.seen.items c.args.found c.hear.result c.args.self.now.is_over
      c.args.self.now.course c.hear.new.self.course c.next.new.self (heard g.V.TableView.documents g.V.TableView.indexes c.heard.result) c.in_ok-next.next
      c.if-hear.false c.hear.ensures.was c.hear.ensures.plan c.hear.ensures.setting c.hear.ensures.seen c.hear.ensures.course c.heard.ensures c.args.self.now.follows c.in_ok-next.ensures.goes c.in_ok-next.ensures.quiet).1;
}
