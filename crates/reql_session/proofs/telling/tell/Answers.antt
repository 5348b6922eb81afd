use Rattle.std.proofs.Common.{None, refl, ◌∙◌}
use Rattle.reql_session.proofs.Settled.{settles_so, settles_wanted}
use Rattle.reql_session.proofs.telling.tell.Goals as goal

pub returns-in_default : goal.returns-in_default
returns-in_default g c = λ k w a e. settles_wanted k _ _ w c.args.token a c.tell_internal.result (c.tell_internal.ensures k w)

pub returns-in-Ok-say : goal.returns-in-Ok-say
returns-in-Ok-say g c = λ k w a e. settles_so k _ _ w w.books w.books c.args.token a None c.as_slice.result.now c.in-Ok-say.whole c.after.result refl (c.as_slice.ensures.value ∙ (rw c.in-Ok.is at e)) c.in-Ok-say.ensures.said c.after.ensures

pub returns : goal.returns
returns g c = λ k w a e. settles_wanted k _ _ w c.args.token a c.tell_internal-in-Err.result (rw c.in-Err.ensures.unsaid at (c.tell_internal-in-Err.ensures k w))
