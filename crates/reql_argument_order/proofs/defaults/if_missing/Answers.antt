use Rattle.std.proofs.Common.{rules, Err, refl, ap}
use Rattle.reql_datum.specs.Answer.{non_existence}
use Rattle.reql_datum.specs.Plain.{text}
use Rattle.reql_value_spec.specs.Lazy.{or_caught, told}
use Rattle.reql_value_spec.specs.Sequenced.{sized}
use Rattle.reql_operand.proofs.Steps.{fails_on}
use Rattle.reql_argument_order.proofs.Told.{told_one}
use Rattle.reql_argument_order.proofs.defaults.if_missing.Goals as goal

pub returns-in_err-value : goal.returns-in_err-value
returns-in_err-value g c w s vars same lent =
    let given = told_one s w vars c.from_ref.result.now _ (text c.args.why) c.tell-given.result c.from_ref.ensures.value (ap text c.in_ok-copy.ensures) (lent.answers _ _ c.tell-given.ensures) in
    let fails = fails_on c.in_err-value.field-0.0 (or_caught (Err (non_existence c.args.why)) (told s w vars (text c.args.why))) (sized w.array_limit) (c.in_err-value.ensures w _ _ refl given) in
    search (rules, fails)

pub returns : goal.returns
returns g c w s vars same lent =
    let given = told_one s w vars c.from_ref.result.now _ (text c.args.why) c.tell-given.result c.from_ref.ensures.value (ap text c.in_ok-copy.ensures) (lent.answers _ _ c.tell-given.ensures) in
    let caught = c.in_ok-value.ensures w (Err (non_existence c.args.why)) (told s w vars (text c.args.why)) refl given in
    rw (caught, same) (c.sized.ensures w)
