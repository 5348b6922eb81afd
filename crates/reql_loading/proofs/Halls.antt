-- The hall of a load.
use Rattle.std.proofs.Common.{◌<◌, ◌∙◌, List, length, ap, arith}
use lib.ListN.{length-replicate}
use Rattle.reql_shared.specs.Sight.{Object, Closing}
use Rattle.reql_hall.specs.Rooms.{Closed, Rooms}
use Rattle.reql_catalog.specs.declared.catalog.Catalog.{Catalog}
use Rattle.reql_catalog.specs.declared.command.CatCmd.{CatCmd}
use Rattle.reql_table_spec.specs.Limits.{usual_limits}
use Rattle.reql_table_spec.specs.Machine.{State, unused}
use Rattle.reql_table_spec.specs.declared.command.Order.{Order}
use Rattle.reql_outside.specs.declared.memory.MemRecord.{MemRecord}
use Rattle.reql_serve.specs.Many.{AtEnd}
use Rattle.reql_run.proofs.Posts.{counted}
use Rattle.reql_loading.specs.Loading.{IsServed}

-- it has a first slot
module _ {E NE : Type 0} (state : E → State) (known : NE → Catalog) where
  pub has_slot : (workers : List (AtEnd MemRecord)) (hall : Closed E Order State NE CatCmd Catalog) → IsServed state known workers hall → 0 < length hall.slots
  has_slot workers hall s =
      let rooms = ap (λ (r : Rooms State Catalog). length r.slots) s.served.closed in
      let starts = ap length s.served.opens.slots ∙ length-replicate usual_limits.slots (unused usual_limits.feeds usual_limits.tail) in
      omega (arith, counted (λ (f : Closing E Order State). f.object) hall.slots, rooms, counted (λ (o : Object State). o.start) s.served.hall.slots, starts)
