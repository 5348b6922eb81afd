use Rattle.std.proofs.Common.{◌<◌, get_or, ap, arith, below_more, sym}
use Rattle.reql_scram.proofs.Differences.{none_at_all, none_in_one, none_in_same, none_more, none_so_far, same_at_each}
use Rattle.reql_scram.proofs.compare.differences.Goals as goal

pub loop-i-preserved : goal.loop-i-preserved
loop-i-preserved c = (
  λ none. below_more _ _ (c.loop-i.invariant.0 (none_so_far _ _ none)) (none_in_one _ _ (none_more _ _ none)),
  λ same. none_at_all _ _ (c.loop-i.invariant.1 (λ k h. same k (omega arith))) (none_in_same _ _ (same c.loop-i.i (omega arith))),
)

pub returns : goal.returns
returns c = (
  λ none. sym (same_at_each _ _ c.requires (λ k h. let below : k < c.loop-i.i = omega arith in c.loop-i.invariant.0 none k below)),
  λ same. c.loop-i.invariant.1 (λ k h. ap (λ xs. get_or xs k 0) (sym same)),
)
