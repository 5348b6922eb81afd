use Rattle.std.proofs.Common.{◌+◌, ◌≤◌, true≢false, None, refl, sym, subst, length}
use Rattle.reql_session_spec.specs.Requests.{Internal}
use Rattle.reql_session.proofs.Settled.{settles_so}
use Rattle.reql_session.proofs.Short.{internal_fits}
use Rattle.reql_session.proofs.telling.tell_internal.Goals as goal

pub returns-in-Ok : goal.returns-in-Ok
returns-in-Ok g c = λ k w. settles_so k _ _ w w.books w.books c.args.token Internal None c.internal.result.now c.in-Ok.whole c.after.result refl c.internal.ensures c.in-Ok.ensures.said c.after.ensures

pub returns-in-Err : goal.returns-in-Err
returns-in-Err g c = absurd (true≢false (sym (c.in-Err.ensures.short (subst (λ z. length z + 12 ≤ 256) (sym c.internal.ensures) internal_fits))))
