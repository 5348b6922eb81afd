-- The engine of a table may go to another thread, where its feeds may. `search` stops at types as deep as these, so they are shown part by part.
use denote.RattleType.{RattleType}
use denote.Param.Send.{IsSend, sendable, view_send}
use denote.Param.SendFields.{declared_send, as_row_send}
use Rattle.std.proofs.Crossing.{crosses}
use Rattle.reql_table.proofs.Sends.{table_send}
use Rattle.reql_table.specs.contracts.table.Table as table
use Rattle.reql_table_spec.proofs.Sends.{entry_send, kept_send}
use Rattle.reql_table_spec.specs.contracts.command.Entry as entry
use Rattle.reql_tail.proofs.Sends.{tail_send}
use Rattle.reql_tail.specs.contracts.tail.Tail as tail
use Rattle.reql_feeds.proofs.Sends.{feeds_send}
use Rattle.reql_feeds.specs.contracts.feeds.Feeds as feeds
use Rattle.reql_feeds.specs.declared.following.Following.{Ghosts}
use Rattle.reql_core.specs.contracts.live.LiveTable as live
use Rattle.reql_core.specs.contracts.live.LiveTable.TheInside as inside_live
use Rattle.reql_core.specs.contracts.moment.Moment as moment
use Rattle.reql_core.specs.contracts.moment.MomentLed.TheImpl as led
use Rattle.reql_core.specs.contracts.moment.Stand as stand
use Rattle.reql_core.specs.contracts.table_core.TableCore as core

moment_send : IsSend moment.the_row
moment_send = declared_send moment.the_type (as_row_send table.the_field table_send, (search sendable, (search sendable, tt)))

history_send : IsSend (tail.the_row moment.the_row entry.the_row stand.the_row led.ghosts)
history_send = tail_send moment.the_row entry.the_row stand.the_row led.ghosts moment_send (as_row_send entry.the_field entry_send)

module _ (F S : RattleType) (g : Ghosts F.Denot table.the_row.Denot S.Denot) where
  live_send : IsSend F → IsSend (live.the_row F S g)
  live_send f = view_send (inside_live.the_row F S g) _ _ _ _
      (declared_send (inside_live.the_type F S g) (search (sendable, crosses) depth 20, (moment_send, (as_row_send (feeds.the_field F table.the_row S g) (feeds_send F table.the_row S g f), (search sendable, (search sendable, tt))))))

  pub core_send : IsSend F → IsSend (core.the_row F S g)
  core_send f =
      let l = live_send f in
      search (sendable, crosses, kept_send, history_send) depth 20
