use Rattle.std.proofs.Common.{◌<◌, ◌≤◌, ◌≢◌, length, arith, get_or-set_other, get_or-set_same, below_more, refl}
use Rattle.reql_scram.proofs.Bits.{is_xored}
use Rattle.reql_client.proofs.proof.xor_into.Goals as goal

pub loop-i-preserved : goal.loop-i-preserved
loop-i-preserved c =
    let within : c.loop-i.i < length c.loop-i.all = omega arith in
    let here : c.loop-i.i ≤ c.loop-i.i = omega arith in (
      below_more _ _
          (λ k h. let ne : k ≢ c.loop-i.i = omega arith in rw get_or-set_other (c.loop-i.invariant.0 k h))
          (rw (get_or-set_same, c.loop-i.invariant.1 c.loop-i.i here)),
      λ k h. let ne : k ≢ c.loop-i.i = omega arith in let le : c.loop-i.i ≤ k = omega arith in rw get_or-set_other (c.loop-i.invariant.1 k le),
    )

pub returns : goal.returns
returns c =
    is_xored c.args.all.now c.args.other.now c.loop-i.all (length c.args.other.now) c.requires refl (omega arith)
    (λ k h. let below : k < c.loop-i.i = omega arith in c.loop-i.invariant.0 k below)
