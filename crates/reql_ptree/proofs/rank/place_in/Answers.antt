use Rattle.std.proofs.Common.{sym, ◌∙◌, arith}
use Rattle.reql_ptree.proofs.Tall.{reach_none}
use Rattle.reql_ptree.proofs.Ranks.{place_left, place_here, place_right, reach_pair}
use Rattle.reql_ptree.proofs.rank.place_in.Goals as goal

pub returns-then-ahead-through-clause-counted : goal.returns-then-ahead-through-clause-counted
returns-then-ahead-through-clause-counted g c =
    omega (
      arith,
      reach_pair c.args.side.now.1 _ (omega (arith, c.in-Some.ensures.node.high, c.loop-node.invariant.low)) c.height-facts.ensures.grown,
      c.loop-node.invariant.counted,
      c.tick.ensures.at_most_one,
      c.tick-then-ahead-through.ensures.at_most_one,
      c.in-Some.ensures.node.high,
    )

pub loop-node-preserved : goal.loop-node-preserved
loop-node-preserved g c = record {
  there =
      sym (place_right c.in-Some.ensures c.loop-node.ahead _ (omega (arith, c.if-ahead-through.false, c.len.ensures, c.len-in-Some.ensures)))
      ∙ c.loop-node.invariant.there;
  low = omega (arith, c.loop-node.invariant.low, c.in-Some.ensures.node.high);
  counted = omega (arith, c.loop-node.invariant.counted, c.tick.ensures.at_most_one, c.in-Some.ensures.node.high);
}

pub returns-clause-counted : goal.returns-clause-counted
returns-clause-counted g c = omega (arith, reach_none _ _ c.height-facts.ensures.grown, c.loop-node.invariant.counted)
