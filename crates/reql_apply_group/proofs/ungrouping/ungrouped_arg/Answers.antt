use Rattle.std.proofs.Common.{sym}
use Rattle.reql_apply_group.proofs.ungrouping.ungrouped_arg.Goals as goal

pub returns-in-None : goal.returns-in-None
returns-in-None c w =
    let e = rw c.in-None.is at c.value_of.ensures w in
    rw (sym e) (c.ungrouped-in-None.ensures w)
