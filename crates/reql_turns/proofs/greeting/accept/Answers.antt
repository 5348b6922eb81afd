use Rattle.std.proofs.Common.{refl}
use Rattle.reql_turns.proofs.Greeted.{said_so, accepted_greeting, unaccepted_greeting}
use Rattle.reql_turns.proofs.greeting.accept.Goals as goal

pub returns-then-send_all : goal.returns-then-send_all
returns-then-send_all g c = λ k. accepted_greeting k _ _ c.args.ears.now _ refl refl refl (said_so _ _ _ _ _ _ c.accepted_answer.ensures c.if-send_all.true c.send_all.ensures)

pub returns-else-send_all : goal.returns-else-send_all
returns-else-send_all g c = λ k. unaccepted_greeting k _ _ c.args.ears.now c.args.ears.now (said_so _ _ _ _ _ _ c.accepted_answer.ensures c.if-send_all.false c.send_all.ensures)
