use Rattle.std.proofs.Common.{Ok, sym, ap, ◌∙◌}
use Rattle.reql_session_spec.specs.Logins.{account}
use Rattle.reql_turns.proofs.Comings.{first_refused}
use Rattle.reql_turns.proofs.login.answer_first.Goals as goal

pub returns-in-Ok-clause-answered : goal.returns-in-Ok-clause-answered
returns-in-Ok-clause-answered g c = λ held rest m.
    c.ask.ensures.asked held c.args.message.now rest m (c.in-Ok.ensures.gives ∙ ap (λ t. Ok t) (sym c.as_slice.ensures.value))

pub returns-in-Err-clause-answered : goal.returns-in-Err-clause-answered
returns-in-Err-clause-answered g c = λ held rest m.
    first_refused (account (g.H.Handler.talk c.args.handler.now)) held c.args.message.now rest c.in-Err.fault (g.H.Handler.work c.args.handler.now) m c.in-Err.ensures.gives
