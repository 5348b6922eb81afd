-- A desk may go to another thread, and a hall may be shared, where the engines may go to another thread.
use denote.RattleType.{RattleType}
use denote.Param.Send.{IsSend, IsSync, sendable}
use Rattle.std.proofs.Crossing.{crosses}
use Rattle.reql_shared.specs.declared.engine.Engine.{Ghosts}
use Rattle.reql_shared.proofs.Sends.{pass_send, shared_sync}
use Rattle.reql_hall.specs.contracts.desk.Desk as desk
use Rattle.reql_hall.specs.contracts.hall.Hall as hall

module _ (C N CC CR CQ CA CS CT CH NC NR NQ NA NS NT NH : RattleType) (g : Ghosts C.Denot CC.Denot CR.Denot CQ.Denot CA.Denot CS.Denot CT.Denot CH.Denot) (h : Ghosts N.Denot NC.Denot NR.Denot NQ.Denot NA.Denot NS.Denot NT.Denot NH.Denot) where
  pub desk_send : IsSend C → IsSend N → IsSend (desk.the_row C N CC CR CQ CA CS CT CH NC NR NQ NA NS NT NH g h)
  desk_send c n =
      let t = pass_send C CC CR CQ CA CS CT CH g c in
      let m = pass_send N NC NR NQ NA NS NT NH h n in
      search (sendable, crosses) depth 20

  pub hall_sync : IsSend C → IsSend N → IsSync (hall.the_row C N CC CR CQ CA CS CT CH NC NR NQ NA NS NT NH g h)
  hall_sync c n =
      let t = shared_sync C CC CR CQ CA CS CT CH g c in
      let m = shared_sync N NC NR NQ NA NS NT NH h n in
      search (sendable, crosses) depth 20
