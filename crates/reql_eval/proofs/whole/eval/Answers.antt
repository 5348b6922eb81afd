use Rattle.reql_term.specs.View.{form_of}
use Rattle.reql_value_spec.specs.Meaning.{sense}
use Rattle.reql_value_spec.specs.Sense.{value}
use Rattle.reql_operand.specs.Tables.{seen}
use Rattle.reql_term_analysis.specs.Bound.{bound}
use Rattle.reql_eval.proofs.whole.eval.Goals as goal

pub returns : goal.returns
returns g c =
    let w = seen g.V.TableView.documents g.V.TableView.indexes g.V.TableView.entries c.args.world.now in
    c.settled.ensures w (value (sense (form_of c.args.term.now)) w (bound c.args.vars.now)) c.eval_term.ensures
