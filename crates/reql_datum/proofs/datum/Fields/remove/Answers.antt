use Rattle.std.proofs.Common.{sym, map, ◌∙◌}
use Rattle.reql_memory.specs.CopyOnWrite.{held_items}
use Rattle.reql_datum.specs.View.{plain, member}
use Rattle.reql_datum.proofs.Shaped.{holds_without}
use Rattle.reql_datum.proofs.Members.{without_gap}
use Rattle.reql_datum.proofs.datum.Fields.remove.Goals as goal

pub invariant_of-self-in_default : goal.invariant_of-self-in_default
invariant_of-self-in_default c =
    let none = sym (rw c.in_default.is at c.in_ok-old.ensures.removed) in
    rw (c.in_ok-old.ensures.entries ∙ without_gap (map member (held_items c.self.inside.held)) c.args.name.now none) c.self.invariant

pub invariant_of-self-2 : goal.invariant_of-self-2
invariant_of-self-2 c =
    holds_without c.self.inside.shape c.shape.result c.shape_after-self-inside.result c.args.name.now (plain c.in-Some.old)
    (map member (held_items c.self.inside.held)) (map member (held_items c.remove_shared.new.held))
    c.self.invariant c.in_ok-old.ensures.entries c.in_ok-old.ensures.rising (rw c.in-Some.is at c.in_ok-old.ensures.removed) c.shape.ensures
    (rw c.shown.ensures at c.shape_after-self-inside.ensures)
