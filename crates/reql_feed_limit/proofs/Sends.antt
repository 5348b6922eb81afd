-- A limit feed may go to another thread. `search` stops at types as deep as these, so they are shown part by part.
use denote.Param.Send.{IsSend, sendable}
use Rattle.std.proofs.Crossing.{crosses}
use Rattle.reql_datum.proofs.Sends.{datum_send}
use Rattle.reql_feed_read.proofs.Sends.{order_send}
use Rattle.reql_feed_limit.specs.contracts.bounds.Bounds as bounds
use Rattle.reql_feed_limit.specs.contracts.element.Element as element
use Rattle.reql_feed_limit.specs.contracts.element.LimitStep as step
use Rattle.reql_feed_limit.specs.contracts.feed.LimitFeed as feed

bounds_send : IsSend bounds.the_field.row
bounds_send = search (sendable, crosses, datum_send) depth 20

element_send : IsSend element.the_field.row
element_send = search (sendable, crosses, datum_send) depth 20

pub step_send : IsSend step.the_field.row
step_send = search (sendable, crosses, element_send) depth 20

pub limit_send : IsSend feed.the_field.row
limit_send = search (sendable, crosses, order_send, bounds_send, element_send) depth 20
