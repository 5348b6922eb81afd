use Rattle.std.proofs.Common.{arith}
use Rattle.reql_squash.proofs.Walks.{pairs_on}
use Rattle.reql_squash.proofs.printed.Printer.tell_pairs.Goals as goal

pub loop-place-preserved : goal.loop-place-preserved
loop-place-preserved c =
    pairs_on c.args.self.now.stamp c.args.self.now.types c.loop-place.place c.args.left.now c.args.came.now _ _ _ _ _
    (omega (arith, c.loop-place-test.true, c.max-most.ensures, c.len.ensures, c.len-2.ensures)) c.at-old.ensures.found c.at-new.ensures.found c.in_ok-tell.ensures c.loop-place.invariant
