use Rattle.std.proofs.Common.{sym, subst, List}
use Rattle.reql_datum.specs.Outcome.{Gives}
use Rattle.reql_value_spec.specs.Meant.{Given}
use Rattle.reql_value_spec.specs.Scalars.{funcall}
use Rattle.reql_operand.specs.Seen.{meant, shown}
use Rattle.reql_apply_scalar.proofs.Walked.{headed}
use Rattle.reql_apply_scalar.proofs.scalars.funcall.Goals as goal

pub returns-in-len1-up : goal.returns-in-len1-up
returns-in-len1-up g c w calls opts answers =
    subst (λ (gs : List Given). Gives (meant w) c.called.result (funcall w calls gs opts))
    (sym (headed (shown w) c.args.args.now c.function-item.result c.in-len1-up.len_at_least c.function-item.is)) (c.called.ensures w calls answers)
