use Rattle.std.proofs.Common.{map}
use Rattle.reql_datum.specs.View.{plain}
use Rattle.reql_term.specs.View.{form_of}
use Rattle.reql_value_spec.specs.Meaning.{sense}
use Rattle.reql_operand.specs.Seen.{meant}
use Rattle.reql_operand.specs.Tables.{seen}
use Rattle.reql_eval.proofs.Ways.{gives_as, function_is}
use Rattle.reql_eval.proofs.whole.call_function.Goals as goal

pub returns : goal.returns
returns g c =
    let w = seen g.V.TableView.documents g.V.TableView.indexes g.V.TableView.entries c.args.world.now in
    gives_as (meant w) _ _ _ (function_is (sense (form_of c.args.term.now)) w (map plain c.args.values.now)) (c.settled.ensures w _ c.give_to.ensures)
