use Rattle.std.proofs.Common.{map}
use Rattle.reql_memory.specs.CopyOnWrite.{held_items}
use Rattle.reql_datum.specs.View.{plain, member}
use Rattle.reql_datum.proofs.Shaped.{holds_new, holds_put}
use Rattle.reql_datum.proofs.datum.Fields.put.Goals as goal

pub invariant_of-self : goal.invariant_of-self
invariant_of-self c =
    holds_new c.self.inside.shape c.beside-self-inside.result c.args.name (plain c.args.value) (map member (held_items c.self.inside.held)) (map member (held_items c.put_shared.new.held))
    c.self.invariant c.in-Ok-None.ensures.entries c.in-Ok-None.ensures.rising (rw c.in-Ok-None.field-0-is at c.in-Ok-None.ensures.replaced) (rw c.member_shape-new.ensures at c.beside-self-inside.ensures)

pub invariant_of-self-in-Ok-Some : goal.invariant_of-self-in-Ok-Some
invariant_of-self-in-Ok-Some c =
    holds_put c.self.inside.shape c.shape.result c.member_shape-new.result c.shape_after-self-inside.result c.args.name (plain c.in-Ok-Some.old) (plain c.args.value)
    (map member (held_items c.self.inside.held)) (map member (held_items c.put_shared.new.held))
    c.self.invariant c.in-Ok-Some.ensures.entries c.in-Ok-Some.ensures.rising (rw c.in-Ok-Some.field-0-is at c.in-Ok-Some.ensures.replaced) c.shape.ensures c.member_shape-new.ensures
    (rw c.shown.ensures at c.shape_after-self-inside.ensures)
