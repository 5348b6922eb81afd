use Rattle.std.proofs.Common.{◌∙◌, ◌∷◌, ap, sym}
use Rattle.reql_apply_seq.proofs.Ordered.{all_falling}
use Rattle.reql_apply_seq.proofs.index_order.order_rows.Goals as goal

pub returns : goal.returns
returns g c = λ w calls h.
    rw (ap (λ ds. c.args.down ∷ ds) (all_falling w c.args.keys.now) ∙ sym c.in_ok-down.ensures ∙ sym c.deref.ensures.value) (c.order_rows_by.ensures w calls h)
