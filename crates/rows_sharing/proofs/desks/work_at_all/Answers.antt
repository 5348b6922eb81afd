use mathlib.Core.List.{[], ◌∷◌}
use denote.RattleType.{RattleType}
use denote.Param.Send.{IsSend, sendable}
use denote.Struct.Field.{u64-field, unit-field}
use denote.Struct.Tuple.{Tuple}
use Rattle.std.proofs.Crossing.{crosses}
use Rattle.std.specs.contracts.alloc.Global as global
use Rattle.std.specs.contracts.impls.GlobalAllocator.TheImpl as heap
use Rattle.std.specs.contracts.collections.LinkedList as linked
use Rattle.reql_shared.specs.contracts.engine.Snap as snap
use Rattle.reql_catalog.specs.contracts.catalog.Catalog as catalog
use Rattle.reql_catalog.specs.contracts.catalogue.Catalogue as catalogue
use Rattle.reql_catalog.specs.contracts.catalogue.CatalogueEngine.TheImpl as names_engine
use Rattle.reql_catalog.specs.contracts.command.CatCmd as cmd
use Rattle.reql_catalog.specs.contracts.command.CatReply as reply
use Rattle.reql_catalog.specs.contracts.names.Names as names
use Rattle.reql_catalog.proofs.catalogue.Catalogue.TheSendSync as catalogue_crosses
use Rattle.reql_hall.proofs.Sends.{desk_send, hall_sync}
use Rattle.rows_sharing.specs.contracts.log.Log as log
use Rattle.rows_sharing.specs.contracts.log.LogEngine.TheImpl as engine
use Rattle.rows_sharing.proofs.desks.work_at_all.Goals as goal

abbrev number : RattleType
number = (u64-field).row

abbrev entries : RattleType
entries = linked.the_row (Tuple (number ∷ number ∷ [])) global.the_row heap.ghosts

log_send : IsSend log.the_row
log_send = search (sendable, crosses) depth 20

pub for_each_mut-requires-sync-F : goal.for_each_mut-requires-sync-F
for_each_mut-requires-sync-F g c κs within =
    let h = hall_sync log.the_row catalogue.the_row number number (unit-field).row number entries number number cmd.the_row reply.the_row snap.the_row names.the_row catalog.the_row reply.the_row names.the_row engine.ghosts names_engine.ghosts log_send catalogue_crosses.the_send in
    let r = c.type_bounds.sync-R in
    search (sendable, crosses) depth 20

pub for_each_mut-requires-send-T : goal.for_each_mut-requires-send-T
for_each_mut-requires-send-T g c κs within =
    let d = desk_send log.the_row catalogue.the_row number number (unit-field).row number entries number number cmd.the_row reply.the_row snap.the_row names.the_row catalog.the_row reply.the_row names.the_row engine.ghosts names_engine.ghosts log_send catalogue_crosses.the_send in
    search (sendable, crosses) depth 20
