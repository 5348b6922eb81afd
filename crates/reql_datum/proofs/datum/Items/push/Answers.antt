use Rattle.std.proofs.Common.{map, ap, sym, ◌∙◌}
use Rattle.reql_memory.specs.CopyOnWrite.{held_items}
use Rattle.reql_datum.specs.Shapes.{items_shape, beside}
use Rattle.reql_datum.specs.View.{plain}
use Rattle.reql_datum.proofs.Shaped.{pushed_shape}
use Rattle.reql_datum.proofs.datum.Items.push.Goals as goal

pub invariant_of-self : goal.invariant_of-self
invariant_of-self c =
    c.beside-shape.ensures
    ∙ (λ i. beside (c.self.invariant i) (c.shape.ensures i))
    ∙ sym (pushed_shape (held_items c.self.inside.held) c.args.item)
    ∙ ap (λ ds. items_shape (map plain ds)) (sym c.in-Ok.ensures.items)
