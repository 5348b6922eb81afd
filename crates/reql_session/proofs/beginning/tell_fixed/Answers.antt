use Rattle.std.proofs.Common.{None, refl}
use Rattle.reql_session_spec.specs.Tasks.{cut_to}
use Rattle.reql_session.proofs.Begun.{fits_cut, fits_whole}
use Rattle.reql_session.proofs.Settled.{settles_so, settles_wanted}
use Rattle.reql_session.proofs.beginning.tell_fixed.Goals as goal

pub returns-then-is_long : goal.returns-then-is_long
returns-then-is_long g c = λ k w a l n e. fits_cut k _ _ w c.args.token a c.tell.result c.is_long.result (c.is_long.ensures k a l e) c.if-is_long.true (c.tell.ensures k w (cut_to k a) (c.cut_to-cut.ensures k a l n))

pub returns-in-Ok : goal.returns-in-Ok
returns-in-Ok g c = λ k w a l n e. fits_whole k _ _ w c.args.token a c.after.result c.is_long.result (c.is_long.ensures k a l e) c.if-is_long.false (settles_so k _ _ w w.books w.books c.args.token a None c.args.written.now c.in-Ok.whole c.after.result refl e c.in-Ok.ensures.said c.after.ensures)

pub returns-in-Err : goal.returns-in-Err
returns-in-Err g c = λ k w a l n e. fits_whole k _ _ w c.args.token a c.tell_internal.result c.is_long.result (c.is_long.ensures k a l e) c.if-is_long.false (settles_wanted k _ _ w c.args.token a c.tell_internal.result (rw c.in-Err.ensures.unsaid at (c.tell_internal.ensures k w)))
