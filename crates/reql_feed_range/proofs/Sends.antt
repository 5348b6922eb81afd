-- A feed of one document or of a range may go to another thread. `search` stops at types as deep as these, so they are shown part by part.
use denote.Param.Send.{IsSend, sendable}
use Rattle.std.proofs.Crossing.{crosses}
use Rattle.reql_datum.proofs.Sends.{name_send}
use Rattle.reql_write_spec.proofs.Sends.{def_send}
use Rattle.reql_table_spec.proofs.Sends.{spec_send}
use Rattle.reql_feed_read.proofs.Sends.{follows_send}
use Rattle.reql_feed_range.specs.contracts.feed.RangeFeed as feed
use Rattle.reql_feed_range.specs.contracts.printed.Printer as printer

printer_send : IsSend printer.the_field.row
printer_send = search (sendable, crosses, name_send) depth 20

pub range_send : IsSend feed.the_field.row
range_send = search (sendable, crosses, spec_send, def_send, follows_send, printer_send) depth 20
