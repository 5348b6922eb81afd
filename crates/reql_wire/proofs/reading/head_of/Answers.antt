use Rattle.std.proofs.Common.{arith}
use Rattle.reql_wire.proofs.Fronts.{there_spelled, there_whole, short_more, part_more, more_no_frame}
use Rattle.reql_wire.proofs.reading.head_of.Goals as goal

pub returns-then-bytes-lt-HEADER_BYTES-clause-spelled :
    goal.returns-then-bytes-lt-HEADER_BYTES-clause-spelled
returns-then-bytes-lt-HEADER_BYTES-clause-spelled c =
    more_no_frame c.args.limit c.args.bytes.now c.ranges.limit.fits (short_more c.args.limit c.args.bytes.now c.if-bytes-lt-HEADER_BYTES.true)

pub returns-then-bytes-used-clause-spelled : goal.returns-then-bytes-used-clause-spelled
returns-then-bytes-used-clause-spelled c =
    more_no_frame c.args.limit c.args.bytes.now c.ranges.limit.fits
    (part_more c.args.limit c.args.bytes.now c.if-bytes-lt-HEADER_BYTES.false
    (omega (arith, c.read_length-len.ensures, c.if-len-limit.false))
    (omega (arith, c.read_length-len.ensures, c.if-bytes-used.true)))

pub returns-clause-exact : goal.returns-clause-exact
returns-clause-exact c =
    there_whole c.args.limit c.read_token.result c.read_length-len.result c.args.bytes.now
    c.read_token.ensures c.read_length-len.ensures
    c.if-bytes-lt-HEADER_BYTES.false c.if-len-limit.false c.if-bytes-used.false

pub returns-clause-spelled : goal.returns-clause-spelled
returns-clause-spelled c =
    there_spelled c.args.limit c.read_token.result c.read_length-len.result c.args.bytes.now
    (λ i. omega (arith, c.type_inv.bytes i)) c.read_token.ensures c.read_length-len.ensures
    c.if-bytes-lt-HEADER_BYTES.false c.if-len-limit.false c.if-bytes-used.false
