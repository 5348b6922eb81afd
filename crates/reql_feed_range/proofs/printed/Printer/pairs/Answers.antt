use Rattle.std.proofs.Common.{arith, option_map}
use Rattle.reql_datum.specs.View.{plain}
use Rattle.reql_feed_range.specs.Printed.{shows, behind}
use Rattle.reql_feed_range.proofs.Pairing.{told_more}
use Rattle.reql_feed_range.proofs.printed.Printer.pairs.Goals as goal

pub loop-place-preserved : goal.loop-place-preserved
loop-place-preserved c =
    told_more (behind (shows c.args.self.now.offsets c.args.self.now.types) (option_map (λ d. plain d.now) c.args.key)) c.loop-place.place c.args.left.now c.args.came.now _ _ _ _ _
    (omega (arith, c.loop-place-test.true, c.max-most.ensures, c.len.ensures, c.len-2.ensures)) c.at-old.ensures.found c.at-new.ensures.found c.in_ok-tell.ensures c.loop-place.invariant
