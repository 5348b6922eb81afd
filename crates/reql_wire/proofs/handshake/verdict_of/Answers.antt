use Rattle.std.proofs.Common.{arith}
use Rattle.reql_wire.proofs.Greetings.{begins, begins_other, behind_version}
use Rattle.reql_wire.proofs.handshake.verdict_of.Goals as goal

pub returns-clause-begins : goal.returns-clause-begins
returns-clause-begins c =
    begins c.args.key.now c.args.bytes.now c.length_verdict.result
    (λ i. omega (arith, c.type_inv.bytes i))
    (behind_version c.args.key.now c.args.bytes.now c.field_at-got.result c.length_verdict.result
    c.if-bytes-lt4.false c.field_at-got.ensures (omega (arith, c.if-got-ne-VERSION.false)) c.length_verdict.ensures)

pub returns-then-got-ne-VERSION-clause-begins : goal.returns-then-got-ne-VERSION-clause-begins
returns-then-got-ne-VERSION-clause-begins c =
    begins_other c.args.key.now c.args.bytes.now c.field_at-got.result c.other_verdict.result c.other_verdict.ensures
