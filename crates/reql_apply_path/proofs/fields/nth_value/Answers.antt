use Rattle.std.proofs.Common.{rules, ap, Ok}
use Rattle.reql_datum.specs.Answer.{◌>>=◌}
use Rattle.reql_value_spec.specs.Fields.{nth_rule}
use Rattle.reql_value_spec.specs.Meant.{one}
use Rattle.reql_operand.specs.Seen.{all_shown}
use Rattle.reql_operand.specs.Tables.{seen}
use Rattle.reql_operand.proofs.Steps.{fails_on}
use Rattle.reql_apply_path.proofs.fields.nth_value.Goals as goal

pub returns-in_err-d : goal.returns-in_err-d
returns-in_err-d g c calls opts =
    let w = seen g.V.TableView.documents g.V.TableView.indexes g.V.TableView.entries c.args.world.now in
    let fails = fails_on c.in_err-d.field-0.0 (nth_rule w calls (all_shown w c.args.args.now) opts) (λ x. Ok (one x)) (c.in_err-d.ensures calls opts) in
    search (rules, fails)

pub returns : goal.returns
returns g c calls opts = ap (λ r. r >>= λ x. Ok (one x)) (c.in_ok-d.ensures calls opts)
