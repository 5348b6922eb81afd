-- The open feeds of a table may go to another thread, where a feed may. `search` stops at types as deep as these, so they are shown part by part.
use denote.RattleType.{RattleType}
use denote.Param.Send.{IsSend, sendable}
use denote.Param.SendFields.{declared_send, as_row_send}
use denote.Struct.Field.{row_field}
use Rattle.std.proofs.Crossing.{crosses}
use Rattle.reql_datum.proofs.Sends.{datum_send}
use Rattle.reql_datum.specs.contracts.datum.Datum as datum
use Rattle.reql_queue.proofs.queue.Queue.TheSendSync as queue_crosses
use Rattle.reql_queue.specs.contracts.queue.Queue as queue
use Rattle.reql_feeds.specs.contracts.entry.Entry as entry
use Rattle.reql_feeds.specs.contracts.feeds.Feeds as feeds
use Rattle.reql_feeds.specs.contracts.keyed.Keyed as keyed
use Rattle.reql_feeds.specs.declared.following.Following.{Ghosts}

queue_send : IsSend (queue.the_row datum.the_row)
queue_send = queue_crosses.the_send datum.the_row (as_row_send datum.the_field datum_send)

entry_send : (F : RattleType) → IsSend F → IsSend (entry.the_row F)
entry_send F f = declared_send (entry.the_type F) (search sendable, (search sendable, (search sendable, (as_row_send (row_field F) f, (as_row_send (queue.the_field datum.the_row) queue_send, tt)))))

module _ (F A S : RattleType) (g : Ghosts F.Denot A.Denot S.Denot) where
  keyed_send : IsSend F → IsSend (keyed.the_row F A S g)
  keyed_send f = let d = datum_send in search (sendable, crosses) depth 20

  pub feeds_send : IsSend F → IsSend (feeds.the_row F A S g)
  feeds_send f = let e = entry_send (keyed.the_row F A S g) (keyed_send f) in search (sendable, crosses) depth 20
