use Rattle.std.proofs.Common.{get_or, drop, suc}
use Rattle.std.proofs.Math.Seq.{drop-cons}
use Rattle.reql_scalar.proofs.Written.{beyond}
use Rattle.reql_scalar.proofs.digits.small_from.Goals as goal

pub returns-then-n-gt-MOST : goal.returns-then-n-gt-MOST
returns-then-n-gt-MOST c =
    beyond c.loop-byte.n (get_or c.args.bytes.now c.loop-byte.byte-index 0) (drop (suc c.loop-byte.byte-index) c.args.bytes.now) c.args.bytes.now (drop c.loop-byte.byte-index c.args.bytes.now)
    (drop-cons c.args.bytes.now c.loop-byte.byte-index 0 c.loop-byte-test.true)
    c.if-digit-lt48.false c.if-digit-gt57.false c.if-n-gt-MOST.true c.loop-byte.invariant.rest
