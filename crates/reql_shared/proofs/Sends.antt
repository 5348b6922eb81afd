-- A pass may go to another thread, and a shared engine may be shared, where the engine may go to another thread.
-- `search` stops short of types as deep as these: cite `pass_send` and `shared_sync` where a thread takes them.
use denote.RattleType.{RattleType}
use denote.Param.Send.{IsSend, IsSync, sendable, view_send, view_sync}
use denote.Param.SendFields.{declared_send, as_row_send, declared_sync, as_row_sync}
use Rattle.atomic_table.proofs.Sent.{seat_keyless}
use Rattle.std.proofs.Common.{rules}
use Rattle.std.proofs.Crossing.{crosses}
use Rattle.std.specs.contracts.option.Option as option
use Rattle.std.specs.contracts.snapshot.Snapshot as snapshot
use Rattle.reql_shared.specs.contracts.view.Lodged as lodged
use Rattle.reql_shared.specs.contracts.view.View as view
use Rattle.atomic_table.specs.contracts.shared.Seat as seat
use Rattle.atomic_table.specs.contracts.owned.Table as table
use Rattle.atomic_table.specs.contracts.shared.Shared as board
use Rattle.atomic_table.proofs.shared.Shared.TheSendSync as board_crosses
use Rattle.atomic_table.proofs.send_lease.SendLease.TheSendSync as lease_crosses
use Rattle.atomic_table.specs.contracts.send_lease.SendLease as lease
use Rattle.std.proofs.Crossing.{sync as global_sync, send as global_send, frees}
use Rattle.std.specs.Borrow.{u64}
use Rattle.reql_shared.specs.contracts.rule.Origin as origin
use Rattle.reql_shared.specs.contracts.rule.OneHistory as one_history
use Rattle.reql_shared.specs.contracts.rule.OneHistoryTableRuleLodgedCmdViewCmdStateOrigin.TheImpl as rule
use Rattle.std.specs.contracts.alloc.Global as global
use Rattle.std.specs.contracts.impls.GlobalAllocator.TheImpl as heap
use Rattle.reql_shared.specs.contracts.pass.Pass as pass
use Rattle.reql_shared.specs.contracts.pass.Pass.TheInside as inside_pass
use Rattle.reql_shared.specs.contracts.shared.Shared as shared
use Rattle.reql_shared.specs.contracts.shared.Shared.TheInside as inside_shared
use Rattle.reql_shared.specs.declared.engine.Engine.{Ghosts}

pub option_send : (E : RattleType) → IsSend E → IsSend (option.the_field E).row
option_send E e = search (sendable, crosses) depth 12

pub snapshot_send : (E : RattleType) → IsSend (option.the_field (snapshot.the_row E)).row
snapshot_send E = search rules

pub lodged_send : (E C : RattleType) → IsSend E → IsSend (lodged.the_row E C)
lodged_send E C e = declared_send (lodged.the_type E C) (as_row_send (option.the_field E) (option_send E e), (as_row_send (option.the_field (snapshot.the_row C)) (snapshot_send C), tt))

pub seat_send : (E C S : RattleType) → IsSend E → IsSend (seat.the_field (lodged.the_row E C) (view.the_row C S)).row
seat_send E C S e = let V = view.the_row C S in record { owned = λ d vs. ((λ vss. (tt, ((λ uss. (tt, tt)), tt))), seat_keyless (lodged.the_row E C) (lodged_send E C e) V.coded.code d.table_id d.id d.me); leaving = λ k f vs. tt }

module _ (E C R Q A S T H : RattleType) (g : Ghosts E.Denot C.Denot R.Denot Q.Denot A.Denot S.Denot T.Denot H.Denot) where
  pub pass_send : IsSend E → IsSend (pass.the_row E C R Q A S T H g)
  pass_send e = view_send (inside_pass.the_row E C R Q A S T H g) _ _ _ _
      (declared_send (inside_pass.the_type E C R Q A S T H g) (as_row_send (seat.the_field (lodged.the_row E C) (view.the_row C S)) (seat_send E C S e), (search rules, (search rules, (search rules, tt)))))

  table_sync : IsSend E → IsSync (table.the_row (lodged.the_row E C) (view.the_row C S) (origin.the_row E) (one_history.the_row E) global.the_row (rule.ghosts E C R Q A S T H g rule.no_dict) heap.ghosts)
  table_sync e =
      let l = lodged_send E C e in
      declared_sync (table.the_type (lodged.the_row E C) (view.the_row C S) (origin.the_row E) (one_history.the_row E) global.the_row (rule.ghosts E C R Q A S T H g rule.no_dict) heap.ghosts) (
        as_row_sync (board.the_field (lodged.the_row E C) (view.the_row C S) (origin.the_row E) (one_history.the_row E) (rule.ghosts E C R Q A S T H g rule.no_dict)) (board_crosses.the_sync (lodged.the_row E C) (view.the_row C S) (origin.the_row E) (one_history.the_row E) (rule.ghosts E C R Q A S T H g rule.no_dict) l),
        (
          search rules,
          (
            search rules,
            (
              as_row_sync (lease.the_field u64 global.the_row heap.ghosts) (lease_crosses.the_sync u64 global.the_row heap.ghosts global_send frees),
              (
                as_row_sync (lease.the_field (lodged.the_row E C) global.the_row heap.ghosts) (lease_crosses.the_sync (lodged.the_row E C) global.the_row heap.ghosts global_send frees),
                (global_sync, tt),
              ),
            ),
          ),
        ),
      )

  pub shared_sync : IsSend E → IsSync (shared.the_row E C R Q A S T H g)
  shared_sync e = view_sync (inside_shared.the_row E C R Q A S T H g) _ _ _ _
      (declared_sync (inside_shared.the_type E C R Q A S T H g) (table_sync e, tt))
