-- An open feed may go to another thread. `search` stops at types as deep as these, so they are shown part by part.
use denote.Param.Send.{IsSend, sendable}
use denote.Param.SendFields.{as_row_send}
use Rattle.std.proofs.Crossing.{crosses}
use Rattle.reql_write_spec.proofs.Sends.{def_send}
use Rattle.reql_table_spec.proofs.Sends.{spec_send}
use Rattle.reql_feed_limit.proofs.Sends.{limit_send}
use Rattle.reql_feed_range.proofs.Sends.{range_send}
use Rattle.reql_open_feed.specs.contracts.feed.OpenFeed as feed
use Rattle.reql_open_feed.specs.contracts.first.FirstFeed as first

first_send : IsSend first.the_field.row
first_send = search (sendable, crosses, spec_send, def_send, limit_send) depth 20

pub open_feed_send : IsSend feed.the_row
open_feed_send = as_row_send feed.the_field (search (sendable, crosses, range_send, first_send) depth 20)
