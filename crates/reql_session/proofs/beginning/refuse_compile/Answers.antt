use Rattle.std.proofs.Common.{refl}
use Rattle.reql_session_spec.specs.Requests.{Compile}
use Rattle.reql_session.proofs.Begun.{refuses_quietly, refuses}
use Rattle.reql_session.proofs.beginning.refuse_compile.Goals as goal

pub returns-then-noreply : goal.returns-then-noreply
returns-then-noreply g c = λ k w l. refuses_quietly k _ w c.args.token c.args.noreply (Compile c.args.why.now) c.if-noreply.true

pub returns : goal.returns
returns g c = λ k w l. refuses k _ _ w c.args.token c.args.noreply (Compile c.args.why.now) c.tell_now.result c.if-noreply.false (c.tell_now.ensures k w (Compile c.args.why.now) l refl (rw c.as_str.ensures at c.compile-written.ensures))
