use Rattle.reql_turns.proofs.Greeted.{said_so, refused_greeting, unrefused_greeting}
use Rattle.reql_turns.proofs.greeting.refuse.Goals as goal

pub returns-then-send_all : goal.returns-then-send_all
returns-then-send_all g c = λ k. refused_greeting k _ _ c.args.ears.now c.args.ears.now c.args.fault (said_so _ _ _ _ _ _ c.answer.ensures c.if-send_all.true c.send_all.ensures)

pub returns-else-send_all : goal.returns-else-send_all
returns-else-send_all g c = λ k. unrefused_greeting k _ _ c.args.ears.now c.args.ears.now c.args.fault (said_so _ _ _ _ _ _ c.answer.ensures c.if-send_all.false c.send_all.ensures)
