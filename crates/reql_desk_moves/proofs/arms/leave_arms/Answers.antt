use Rattle.reql_desk_moves.proofs.Closings.{left_none, left_next, left_all}
use Rattle.reql_desk_moves.proofs.arms.leave_arms.Goals as goal

pub loop-at-init : goal.loop-at-init
loop-at-init g c = (c.requires.of_this_hall, λ k. left_none k g.C.Engine.some_state _ _)

pub loop-at-preserved : goal.loop-at-preserved
loop-at-preserved g c = (
  c.close_arm.ensures.of_this_hall,
  λ k. left_next k g.C.Engine.some_state _ _ _ c.args.arms.now c.loop-at.at c.index-arms-at.result c.close_arm.result c.loop-at-test.true c.index-arms-at.is (c.loop-at.invariant.1 k) c.close_arm.ensures.closed,
)

pub returns-clause-left : goal.returns-clause-left
returns-clause-left g c = λ k m end rest e. left_all k g.C.Engine.some_state _ _ c.args.arms.now c.loop-at.at c.loop-at-test.false (c.loop-at.invariant.1 k) m end rest e
