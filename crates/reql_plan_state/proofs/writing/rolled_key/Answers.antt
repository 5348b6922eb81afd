use Rattle.reql_datum.specs.View.{plain}
use Rattle.reql_plan_context.specs.Seen.{held}
use Rattle.reql_plan_spec.specs.Keys.{key_of}
use Rattle.reql_plan_state.specs.Rest.{rest_of_writes}
use Rattle.reql_plan_state.proofs.Keys.{keyed}
use Rattle.reql_plan_state.proofs.writing.rolled_key.Goals as goal

pub returns : goal.returns
returns g c =
    let e = held g.V.TableView.documents g.V.TableView.indexes g.V.TableView.entries c.args.e in
    keyed g.V.TableView.documents g.V.TableView.indexes g.V.TableView.entries c.run_write.result e c.args.ready c.args.made c.in_ok-keys.keys (plain c.in_ok-key.key) (key_of c.args.bytes) c.args.left (rest_of_writes e c.args.then) c.in_ok-keys.ensures c.in_ok-key.ensures c.run_write.ensures
