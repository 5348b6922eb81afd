use Rattle.std.proofs.Common.{◌<◌, ◌≤◌, arith}
use Rattle.reql_desk_moves.proofs.Closings.{stopped_none, stopped_all, stopped_denied}
use Rattle.reql_desk_moves.proofs.arms.stop_arms.Goals as goal

pub returns-then-arms-eq0-clause-stopped : goal.returns-then-arms-eq0-clause-stopped
returns-then-arms-eq0-clause-stopped g c = λ k b token a. stopped_none k g.C.Engine.some_state _ b token a c.args.arms.now c.if-arms-eq0.true

pub returns-then-close_arm-clause-stopped : goal.returns-then-close_arm-clause-stopped
returns-then-close_arm-clause-stopped g c = λ k b token a.
    stopped_all k g.C.Engine.some_state _ _ _ b token a c.args.arms.now c.index-arms-0.result c.close_arm.result c.if-close_arm.true (omega (arith, c.if-arms-eq0.false)) c.index-arms-0.is c.close_arm.ensures.closed (c.close_arms.ensures.closed k _ token a)

pub returns-else-close_arm-clause-stopped : goal.returns-else-close_arm-clause-stopped
returns-else-close_arm-clause-stopped g c = λ k b token a.
    stopped_denied k g.C.Engine.some_state _ _ b token a c.args.arms.now c.index-arms-0.result c.close_arm.result c.if-close_arm.false (omega (arith, c.if-arms-eq0.false)) c.index-arms-0.is c.close_arm.ensures.closed
