use denote.Param.Send.{IsSend, sendable}
use denote.Struct.Field.{u64-field, unit-field}
use Rattle.std.proofs.Crossing.{crosses}
use Rattle.std.specs.contracts.alloc.Global as global
use Rattle.std.specs.contracts.impls.GlobalAllocator.TheImpl as heap
use Rattle.std.specs.contracts.collections.LinkedList as linked
use Rattle.reql_memory.specs.contracts.seq.Seq as seq
use Rattle.reql_shared.proofs.Sends.{pass_send, shared_sync}
use Rattle.rows_sharing.specs.contracts.caller.Callers as callers
use Rattle.rows_sharing.specs.contracts.caller.CallersEngine.TheImpl as engine
use Rattle.rows_sharing.proofs.calling.call_all.Goals as goal

callers_send : IsSend callers.the_row
callers_send = search (sendable, crosses) depth 20

pub for_each_mut-requires-sync-F : goal.for_each_mut-requires-sync-F
for_each_mut-requires-sync-F g c κs within =
    let s = shared_sync callers.the_row (unit-field).row (u64-field).row (unit-field).row (seq.the_row (u64-field).row) (linked.the_row (u64-field).row global.the_row heap.ghosts) (u64-field).row (linked.the_row (u64-field).row global.the_row heap.ghosts) engine.ghosts callers_send in
    search sendable depth 20

pub for_each_mut-requires-send-T : goal.for_each_mut-requires-send-T
for_each_mut-requires-send-T g c κs within =
    let p = pass_send callers.the_row (unit-field).row (u64-field).row (unit-field).row (seq.the_row (u64-field).row) (linked.the_row (u64-field).row global.the_row heap.ghosts) (u64-field).row (linked.the_row (u64-field).row global.the_row heap.ghosts) engine.ghosts callers_send in
    search (sendable, crosses) depth 20
