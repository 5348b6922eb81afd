use Rattle.std.proofs.Common.{refl, drop, Ok}
use Rattle.reql_login.specs.Messages.{More}
use Rattle.reql_turns.proofs.Comings.{asked_turn, last_oversized, last_refused, last_so}
use Rattle.reql_turns.proofs.login.last_turn.Goals as goal

pub returns-in-More : goal.returns-in-More
returns-in-More c = λ account. (refl, asked_turn account _ _ More c.in-More.ensures)

pub returns-in-Oversize : goal.returns-in-Oversize
returns-in-Oversize c = λ account. last_oversized account _ _ c.in-Oversize.ensures

pub returns-in-Ok : goal.returns-in-Ok
returns-in-Ok c = λ account.
    (c.in-Whole.ensures.0, last_so account _ _ c.in-Whole.message.now (drop c.in-Whole.used c.args.held.now) (Ok c.in-Ok.message.items) c.in-Whole.ensures.1 c.in-Ok.ensures)

pub returns-in-Err : goal.returns-in-Err
returns-in-Err c = λ account.
    last_refused account _ _ c.in-Whole.message.now (drop c.in-Whole.used c.args.held.now) c.in-Err.fault c.in-Whole.ensures.1 c.in-Err.ensures
