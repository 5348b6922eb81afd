use Rattle.std.proofs.Common.{is_ok}
use Rattle.reql_memory.specs.CopyOnWrite.{held_items}
use Rattle.reql_group.proofs.Rise.{push_keeps}
use Rattle.reql_group.proofs.grouped.Groups.push.Goals as goal

pub invariant_of-self : goal.invariant_of-self
invariant_of-self c =
    push_keeps (is_ok c.push_on.result) (held_items c.self.inside.held) (held_items c.push_on.new.held) (record { group = c.args.group; datum = c.args.datum })
    c.self.invariant (rw (← c.self.view_is) at c.requires.above) c.push_on.ensures.items
