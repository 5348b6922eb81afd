use Rattle.reql_term.specs.Form.{forms_of, named_of}
use Rattle.reql_plan_context.specs.Seen.{held}
use Rattle.reql_plan_spec.specs.declared.parts.Commanded.{Commanded}
use Rattle.reql_plan_spec.specs.Commands.{table_command, cmd_of}
use Rattle.reql_plan_spec.specs.Course.{reply_heard, table_said, order_of}
use Rattle.reql_plan_spec.specs.Move.{run}
use Rattle.reql_plan_spec.specs.Request.{ends, asks}
use Rattle.reql_plan_state.proofs.Turns.{goes_by}
use Rattle.reql_plan.proofs.indexing.change_table.Goals as goal

pub returns-in-Ok : goal.returns-in-Ok
returns-in-Ok g c =
    let e = held g.V.TableView.documents g.V.TableView.indexes g.V.TableView.entries c.args.e in
    goes_by g.V.TableView.documents g.V.TableView.indexes g.V.TableView.entries c.ask_table.result c.in-Ok.command (table_command e c.args.op (forms_of c.args.args.now) (named_of c.args.opts.now))
    (λ (t : Commanded). asks (run t.slot (order_of e (cmd_of t.cmd))) (λ h. reply_heard e.names t.slot h (λ x. table_said t x ends))) c.in-Ok.ensures c.ask_table.ensures
