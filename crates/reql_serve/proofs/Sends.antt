-- A worker may go to another thread, where its engine, its door, its dice, its clock and the records of its links may.
use denote.RattleType.{RattleType}
use denote.Param.Send.{IsSend, sendable}
use denote.Param.SendFields.{declared_send, as_row_send}
use denote.Struct.Field.{row_field}
use Rattle.std.proofs.Common.{rules}
use Rattle.std.proofs.Crossing.{crosses}
use Rattle.std.specs.contracts.option.Option as option
use Rattle.reql_shared.specs.contracts.engine.Snap as snap
use Rattle.reql_shared.specs.declared.engine.Engine.{Ghosts}
use Rattle.reql_shared.specs.declared.engine.Snap.{Snap}
use Rattle.reql_catalog.specs.contracts.catalog.Catalog as catalog
use Rattle.reql_catalog.specs.contracts.catalogue.Catalogue as catalogue
use Rattle.reql_catalog.specs.contracts.catalogue.CatalogueEngine.TheImpl as names_engine
use Rattle.reql_catalog.specs.contracts.command.CatCmd as cat_cmd
use Rattle.reql_catalog.specs.contracts.command.CatReply as cat_reply
use Rattle.reql_catalog.specs.contracts.names.Names as names
use Rattle.reql_catalog.proofs.Sends.{catalogue_send}
use Rattle.reql_hall.specs.contracts.desk.Desk as desk
use Rattle.reql_hall.proofs.Sends.{desk_send}
use Rattle.reql_table_machine_spec.specs.contracts.command.Look as look
use Rattle.reql_table_machine_spec.specs.declared.command.Look.{Look}
use Rattle.reql_table_spec.specs.contracts.command.Order as order
use Rattle.reql_table_spec.specs.contracts.engine.MachineState as machine
use Rattle.reql_table_spec.specs.contracts.reply.Reply as reply
use Rattle.reql_table_spec.specs.contracts.reply.Told as told
use Rattle.reql_table_spec.specs.contracts.reply.Heard as heard
use Rattle.reql_table_spec.specs.declared.command.Order.{Order}
use Rattle.reql_table_spec.specs.declared.engine.MachineState.{MachineState}
use Rattle.reql_table_spec.specs.declared.reply.Reply.{Reply}
use Rattle.reql_table_spec.specs.declared.reply.Told.{Told}
use Rattle.reql_table_spec.specs.declared.reply.Heard.{Heard}
use Rattle.reql_session_spec.specs.contracts.end.End as end
use Rattle.reql_turns.specs.contracts.served.Served as served
use Rattle.reql_session.specs.contracts.session.Bench as bench
use Rattle.reql_serve.specs.contracts.worker.Member as member
use Rattle.reql_serve.specs.contracts.worker.Worker as worker

end_send : IsSend end.the_field.row
end_send = search (sendable, crosses) depth 60

module _ (R : RattleType) where
  served_send : IsSend R → IsSend (served.the_row R)
  served_send r = declared_send (served.the_type R) (as_row_send end.the_field end_send, (as_row_send (row_field R) r, (search rules, tt)))

  member_send : IsSend R → IsSend (member.the_row R)
  member_send r = declared_send (member.the_type R) (search rules, (served_send r, tt))

module _ (h : RattleType) (s : IsSend h) where
  may_send : IsSend (option.the_field h).row
  may_send = search (sendable, crosses) depth 12

module _ (C D T V : RattleType) (e : Ghosts C.Denot Order Reply Snap (Look V.Denot) MachineState Told Heard) where
  bench_send : IsSend C → IsSend D → IsSend T → IsSend (bench.the_row C D T V e)
  bench_send c d t = declared_send (bench.the_type C D T V e) (
    as_row_send (desk.the_field C catalogue.the_row order.the_row reply.the_row snap.the_row (look.the_row V) machine.the_row told.the_row heard.the_row cat_cmd.the_row cat_reply.the_row snap.the_row names.the_row catalog.the_row cat_reply.the_row names.the_row e names_engine.ghosts)
        (desk_send C catalogue.the_row order.the_row reply.the_row snap.the_row (look.the_row V) machine.the_row told.the_row heard.the_row cat_cmd.the_row cat_reply.the_row snap.the_row names.the_row catalog.the_row cat_reply.the_row names.the_row e names_engine.ghosts c catalogue_send),
    (as_row_send (row_field T) t, (as_row_send (row_field D) d, tt)),
  )

module _ (C G D T V L W R : RattleType) (e : Ghosts C.Denot Order Reply Snap (Look V.Denot) MachineState Told Heard) where
  pub worker_send : IsSend C → IsSend G → IsSend D → IsSend T → IsSend R → IsSend (worker.the_row C G D T V L W R e)
  worker_send c g d t r =
      let m = member_send R r in
      declared_send (worker.the_type C G D T V L W R e) (
        as_row_send (row_field G) g,
        (
          as_row_send (option.the_field (bench.the_row C D T V e)) (may_send (bench.the_row C D T V e) (bench_send C D T V e c d t)),
          (search rules, (search (sendable, crosses) depth 20, (search (sendable, crosses) depth 20, tt))),
        ),
      )
