use Rattle.std.proofs.Common.{refl}
use Rattle.reql_term.specs.Form.{forms_of, named_of}
use Rattle.reql_term.specs.View.{form_of}
use Rattle.reql_write_spec.specs.declared.command.Act.TheVariants as act
use Rattle.reql_plan_context.specs.Seen.{held}
use Rattle.reql_plan_commands.proofs.Changing.{changes}
use Rattle.reql_plan_commands.proofs.changes.updating.Goals as goal

pub returns : goal.returns
returns g c =
    let e = held g.V.TableView.documents g.V.TableView.indexes g.V.TableView.entries c.args.request.now in
    changes e (forms_of c.args.args.now) (named_of c.args.opts.now) (form_of c.in_ok-found.found.now) (form_of c.in_ok-rows.rows) c.in_ok-slot.slot (act.Update c.in_ok-rows-2.rows c.in_ok-change-2.change) c.changed.result
    act.Update (form_of c.in_ok-given.given.now) (form_of c.in_ok-change.change) c.in_ok-found.ensures c.in_ok-rows.ensures c.in_ok-given.ensures c.in_ok-change.ensures c.in_ok-slot.ensures
    (rw (c.in_ok-rows-2.ensures.ok, c.in_ok-change-2.ensures.ok) refl) c.changed.ensures
