use Rattle.std.proofs.Common.{◌∙◌, sym}
use Rattle.reql_apply_seq.proofs.Ordered.{all_falling}
use Rattle.reql_apply_seq.proofs.ordering.order_all_by.Goals as goal

pub returns : goal.returns
returns g c = λ w calls h.
    rw (all_falling w c.args.keys.now ∙ sym c.in_ok-down.ensures ∙ sym c.deref.ensures.value) (c.order_items.ensures w calls h)
