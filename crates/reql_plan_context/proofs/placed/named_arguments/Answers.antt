use Rattle.reql_operand.specs.Tables.{seen}
use Rattle.reql_plan_context.specs.Keeping.{kept_by}
use Rattle.reql_plan_context.proofs.Named.{step}
use Rattle.reql_plan_context.proofs.placed.named_arguments.Goals as goal

pub loop-name-preserved : goal.loop-name-preserved
loop-name-preserved g c = step (kept_by c.args.keeps) (seen g.V.TableView.documents g.V.TableView.indexes g.V.TableView.entries c.args.world.now) c.args.fields.now c.loop-name.settled _ c.loop-name.place _ _ _ c.loop-name.invariant c.in-Some.ensures.rising c.in-Some.ensures.rest c.in_ok-literal.ensures c.in_ok-settled-2.ensures
