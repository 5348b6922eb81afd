-- What is kept of a history may go to another thread, where its values and its entries may.
use denote.RattleType.{RattleType}
use denote.Param.Send.{IsSend, sendable}
use Rattle.std.proofs.Crossing.{crosses}
use Rattle.reql_tail.specs.declared.led.Led.{Ghosts}
use Rattle.reql_tail.specs.contracts.tail.Tail as tail

module _ (B E S : RattleType) (g : Ghosts B.Denot E.Denot S.Denot) where
  pub tail_send : IsSend B → IsSend E → IsSend (tail.the_row B E S g)
  tail_send b e = search (sendable, crosses) depth 20
