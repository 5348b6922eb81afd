use Rattle.reql_session_spec.specs.Tasks.{fitted}
use Rattle.reql_session.proofs.Settled.{settles_wanted}
use Rattle.reql_session.proofs.telling.tell_now.Goals as goal

pub returns-in_default : goal.returns-in_default
returns-in_default g c = λ k w a l n e. settles_wanted k _ _ w c.args.token (fitted k a) c.tell_internal.result (c.tell_internal.ensures k w)

pub returns : goal.returns
returns g c = λ k w a l n e. c.tell.ensures k w (fitted k a) (c.fitted-fitting.ensures k a l (rw c.in-Ok.is at e) n)
