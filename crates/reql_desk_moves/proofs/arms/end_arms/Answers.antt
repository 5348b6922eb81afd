use Rattle.std.proofs.Common.{◌<◌, ◌≤◌, arith}
use Rattle.reql_session_spec.specs.Tasks.{Settled, Drops}
use Rattle.reql_desk_moves.proofs.Closings.{ended_none, settled_all, dropped_all}
use Rattle.reql_desk_moves.proofs.arms.end_arms.Goals as goal

pub returns-then-arms-eq0-clause-settled : goal.returns-then-arms-eq0-clause-settled
returns-then-arms-eq0-clause-settled g c = λ k b token a. ended_none k g.C.Engine.some_state _ b token Settled a c.args.arms.now c.if-arms-eq0.true

pub returns-then-arms-eq0-clause-dropped : goal.returns-then-arms-eq0-clause-dropped
returns-then-arms-eq0-clause-dropped g c = λ k b token a. ended_none k g.C.Engine.some_state _ b token Drops a c.args.arms.now c.if-arms-eq0.true

pub returns-clause-settled : goal.returns-clause-settled
returns-clause-settled g c = λ k b token a.
    settled_all k g.C.Engine.some_state _ _ _ b token a c.args.arms.now c.index-arms-0.result c.close_arm.result (omega (arith, c.if-arms-eq0.false)) c.index-arms-0.is c.close_arm.ensures.closed (c.close_arms.ensures.closed k _ token a)

pub returns-clause-dropped : goal.returns-clause-dropped
returns-clause-dropped g c = λ k b token a.
    dropped_all k g.C.Engine.some_state _ _ _ b token a c.args.arms.now c.index-arms-0.result c.close_arm.result (omega (arith, c.if-arms-eq0.false)) c.index-arms-0.is c.close_arm.ensures.closed (c.close_arms.ensures.closed k _ token a)
