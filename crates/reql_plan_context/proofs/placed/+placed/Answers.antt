use Rattle.reql_operand.specs.Tables.{seen}
use Rattle.reql_plan_context.specs.Keeping.{kept_by}
use Rattle.reql_plan_context.proofs.Named.{listed}
use Rattle.reql_plan_context.proofs.placed.+placed.Goals as goal

pub arguments-loop-term-preserved : goal.arguments-loop-term-preserved
arguments-loop-term-preserved g t c = listed (kept_by c.args.keeps) (seen g.V.TableView.documents g.V.TableView.indexes g.V.TableView.entries c.args.world.now) _ c.args.terms.now c.loop-term.place c.loop-term.list _ _ _ c.loop-term.invariant c.in-Some.ensures.rest c.in_ok-literal.ensures c.in_ok-push.ensures.items
