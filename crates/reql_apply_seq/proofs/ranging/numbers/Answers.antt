use Rattle.std.proofs.Common.{rules, arith, ◌<ℤ◌}
use Rattle.std.proofs.lemmas.Int.{ints}
use Rattle.reql_apply_seq.proofs.Ranges.{numbers_on}
use Rattle.reql_apply_seq.proofs.ranging.numbers.Goals as goal

pub loop-to-preserved : goal.loop-to-preserved
loop-to-preserved c =
    let below : c.loop-to.n <ℤ c.args.to = omega (arith, ints) in
    numbers_on c.loop-to.n c.next-n.result c.args.to _ c.loop-to.items c.push.new.self below c.next-n.ensures (search rules) c.loop-to.invariant
