use Rattle.std.proofs.Common.{rules, arith, ◌+◌, ap, length, drop, ◌∙◌}
use Rattle.reql_datum.specs.View.{plain}
use Rattle.reql_seq.specs.Seen.{key_seen, sum_seen}
use Rattle.reql_seq.proofs.Summing.{sum_on, sum_step}
use Rattle.reql_seq.proofs.totals.sum.Goals as goal

pub returns-in_err-sum-clause-sum : goal.returns-in_err-sum-clause-sum
returns-in_err-sum-clause-sum g c = λ m means.
    let on =
    c.loop-item.invariant.1 m means
    ∙ sum_on m (sum_seen c.loop-item.sum) (plain c.in-Some.item.now) (drop c.loop-item.place c.args.list.now) (drop (c.loop-item.place + 1) c.args.list.now) (key_seen c.in_ok-value.value) c.in-Some.ensures.rest (c.in_ok-value.ensures _ (means.answers _ _ c.f.ensures)) in
    rw on (let e = c.in_err-sum.ensures.sum (plain c.in-Some.item.now) in search (rules, e))

pub loop-item-preserved : goal.loop-item-preserved
loop-item-preserved g c =
    let left = ap length c.in-Some.ensures.rest in (
      omega (arith, left, c.in_ok-sum.ensures.count, c.loop-item.invariant.0),
      λ m means.
          c.loop-item.invariant.1 m means
          ∙ sum_step m (sum_seen c.loop-item.sum) (sum_seen c.in_ok-sum.sum) (plain c.in-Some.item.now) (drop c.loop-item.place c.args.list.now) (drop (c.loop-item.place + 1) c.args.list.now) (key_seen c.in_ok-value.value) c.in-Some.ensures.rest (c.in_ok-value.ensures _ (means.answers _ _ c.f.ensures)) (c.in_ok-sum.ensures.sum (plain c.in-Some.item.now)),
    )
