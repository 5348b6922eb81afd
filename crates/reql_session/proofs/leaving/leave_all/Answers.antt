use Rattle.std.proofs.Common.{length, get_or, ap, subst, sym}
use Rattle.reql_desk_moves.specs.Acting.{AreThere}
use Rattle.reql_session.proofs.Left.{next_there, left_none, left_next, left_all}
use Rattle.reql_session.proofs.leaving.leave_all.Goals as goal

pub loop-at-init : goal.loop-at-init
loop-at-init g c = (c.requires.of_this_hall, λ k. left_none k g.C.Engine.some_state _ _)

pub leave_arms-requires-clause-there : goal.leave_arms-requires-clause-there
leave_arms-requires-clause-there g c = subst (AreThere (length c.args.hall.now.slots)) (sym c.as_slice.ensures.value) (next_there (length c.args.hall.now.slots) c.args.feeds.now c.loop-at.at (get_or c.args.feeds.now c.loop-at.at c.index-feeds-at.result) c.loop-at-test.true (ap (get_or c.args.feeds.now c.loop-at.at) c.index-feeds-at.is) c.requires.there)

pub loop-at-preserved : goal.loop-at-preserved
loop-at-preserved g c = (
  c.leave_arms.ensures.of_this_hall,
  λ k. left_next k g.C.Engine.some_state _ _ _ c.args.feeds.now c.loop-at.at (get_or c.args.feeds.now c.loop-at.at c.index-feeds-at.result) c.loop-at-test.true (ap (get_or c.args.feeds.now c.loop-at.at) c.index-feeds-at.is) (c.loop-at.invariant.1 k) (rw c.as_slice.ensures.value at (c.leave_arms.ensures.left k)),
)

pub returns-clause-left : goal.returns-clause-left
returns-clause-left g c = λ k m end e. left_all k g.C.Engine.some_state _ _ c.args.feeds.now c.loop-at.at c.loop-at-test.false (c.loop-at.invariant.1 k) m end e
