use Rattle.std.proofs.Common.{refl}
use Rattle.reql_turns.proofs.Greeted.{said_so}
use Rattle.reql_turns.proofs.Exchanging.{called_now, uncalled}
use Rattle.reql_turns.proofs.login.call.Goals as goal

pub returns-then-send_all : goal.returns-then-send_all
returns-then-send_all g c = λ k. called_now k c.args.ears.now _ _ _ refl refl refl refl (said_so _ _ _ _ _ _ c.hello.ensures c.if-send_all.true c.send_all.ensures)

pub returns-else-send_all : goal.returns-else-send_all
returns-else-send_all g c = λ k. uncalled k c.args.ears.now c.args.ears.now _ _ (said_so _ _ _ _ _ _ c.hello.ensures c.if-send_all.false c.send_all.ensures)
