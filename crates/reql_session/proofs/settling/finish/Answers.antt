use Rattle.std.proofs.Common.{Some}
use Rattle.reql_session_spec.specs.Books.{closed}
use Rattle.reql_session_spec.specs.Tasks.{only_tell}
use Rattle.reql_desk_moves.proofs.Closings.{closed_twice}
use Rattle.reql_session.proofs.Settled.{settles_closed}
use Rattle.reql_session.proofs.settling.finish.Goals as goal

pub returns-clause-finished : goal.returns-clause-finished
returns-clause-finished g c = λ k b clock dice a e.
    settles_closed k g.C.Engine.some_state _ _ c.args.desk.now c.close_arms.new.desk (closed c.args.token b) (closed c.args.token b) clock dice _ (λ z. only_tell z c.args.token a) c.tell.result
    (c.close_arms.ensures.closed k (closed c.args.token b) c.args.token (Some a) (closed_twice c.args.token b))
    (λ w. c.tell.ensures k w a e)
