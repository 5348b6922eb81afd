use Rattle.std.proofs.Common.{refl, drop}
use Rattle.reql_login.specs.Messages.{More}
use Rattle.reql_session_spec.specs.Logins.{account}
use Rattle.reql_turns.proofs.Comings.{greeted_turn, oversized}
use Rattle.reql_turns.proofs.login.first_turn.Goals as goal

pub returns-in-More-clause-turned : goal.returns-in-More-clause-turned
returns-in-More-clause-turned g c = (refl, greeted_turn _ _ More c.in-More.ensures)

pub returns-in-Oversize-clause-turned : goal.returns-in-Oversize-clause-turned
returns-in-Oversize-clause-turned g c = oversized (account (g.H.Handler.talk c.args.handler.now)) c.args.held.now (g.H.Handler.work c.args.handler.now) c.in-Oversize.ensures

pub returns-in-Err-clause-turned : goal.returns-in-Err-clause-turned
returns-in-Err-clause-turned g c = c.in-Err.ensures.answered c.args.held.now (drop c.in-Whole.used c.args.held.now) c.in-Whole.ensures.1
