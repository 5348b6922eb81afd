use Rattle.std.proofs.Common.{ap}
use Rattle.reql_term.specs.Form.{forms_of, named_of}
use Rattle.reql_term.specs.View.{form_of}
use Rattle.reql_write_spec.specs.declared.command.Act.TheVariants as act
use Rattle.reql_plan_context.specs.Seen.{held}
use Rattle.reql_plan_commands.proofs.Changing.{deletes}
use Rattle.reql_plan_commands.proofs.changes.deleting.Goals as goal

pub returns : goal.returns
returns g c =
    let e = held g.V.TableView.documents g.V.TableView.indexes g.V.TableView.entries c.args.request.now in
    deletes e (forms_of c.args.args.now) (named_of c.args.opts.now) (form_of c.in_ok-found.found.now) (form_of c.in_ok-rows.rows) c.in_ok-slot.slot (act.Delete c.in_ok-rows-2.rows) c.changed.result
    c.in_ok-found.ensures c.in_ok-rows.ensures c.in_ok-slot.ensures (ap act.Delete c.in_ok-rows-2.ensures.ok) c.changed.ensures
