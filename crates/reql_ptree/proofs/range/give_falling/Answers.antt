use Rattle.std.proofs.Common.{arith}
use Rattle.reql_ptree.proofs.Gathered.{stop_falling}
use Rattle.reql_ptree.proofs.range.give_falling.Goals as goal

pub returns-else-len-most : goal.returns-else-len-most
returns-else-len-most c =
    stop_falling c.args.most c.args.out.now c.loop-place.out c.args.part.now c.loop-place.place c.loop-place.invariant.done c.loop-place.invariant.room (omega (arith, c.if-len-most.false, c.len.ensures))
