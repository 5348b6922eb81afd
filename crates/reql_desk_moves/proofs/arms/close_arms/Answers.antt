use Rattle.reql_desk_moves.proofs.Stepping.{steps_none}
use Rattle.reql_desk_moves.proofs.Closings.{closing_next, closing_all}
use Rattle.reql_desk_moves.proofs.arms.close_arms.Goals as goal

pub loop-at-init : goal.loop-at-init
loop-at-init g c = (c.requires.of_this_hall, λ k b token a e. steps_none k g.C.Engine.some_state _ _)

pub loop-at-preserved : goal.loop-at-preserved
loop-at-preserved g c = (
  c.close_arm.ensures.of_this_hall,
  λ k b token a e. closing_next k g.C.Engine.some_state _ _ _ b token a c.args.arms.now c.args.from c.loop-at.at c.index-arms-at.result c.close_arm.result e c.loop-at-test.true c.index-arms-at.is (c.loop-at.invariant.1 k b token a e) c.close_arm.ensures.closed,
)

pub returns-clause-closed : goal.returns-clause-closed
returns-clause-closed g c = λ k b token a e. closing_all k g.C.Engine.some_state _ _ b token a c.args.arms.now c.args.from c.loop-at.at c.loop-at-test.false (c.loop-at.invariant.1 k b token a e)
