-- What a feed follows may go to another thread. `search` stops at types as deep as these, so they are shown part by part.
use denote.Param.Send.{IsSend, sendable}
use Rattle.std.proofs.Crossing.{crosses}
use Rattle.reql_datum.proofs.Sends.{datum_send, items_send, name_send}
use Rattle.reql_table.proofs.Sends.{table_send}
use Rattle.reql_write_spec.proofs.Sends.{body_send, def_send}
use Rattle.reql_feed_read.specs.contracts.follows.Follows as follows
use Rattle.reql_feed_read.specs.contracts.order.Order as order
use Rattle.reql_feed_read.specs.contracts.order.Part as part
use Rattle.reql_feed_read.specs.contracts.shape.RangeShape as shape
use Rattle.reql_feed_read.specs.contracts.source.Places as places
use Rattle.reql_feed_read.specs.contracts.source.Source as source

part_send : IsSend part.the_field.row
part_send = search (sendable, crosses, datum_send) depth 20

pub order_send : IsSend order.the_field.row
order_send = search (sendable, crosses, def_send, part_send) depth 20

places_send : IsSend places.the_field.row
places_send = search (sendable, crosses, items_send, part_send) depth 20

source_send : IsSend source.the_field.row
source_send = search (sendable, crosses, def_send, places_send) depth 20

shape_send : IsSend shape.the_field.row
shape_send = search (sendable, crosses, name_send, body_send, table_send, source_send) depth 20

pub follows_send : IsSend follows.the_field.row
follows_send = search (sendable, crosses, datum_send, order_send, shape_send) depth 20
