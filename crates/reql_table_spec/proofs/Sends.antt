-- Commands and the changes that they make may go to another thread. `search` stops at types as deep as these, so they are shown part by part.
use denote.Param.Send.{IsSend, sendable}
use Rattle.std.proofs.Crossing.{crosses}
use Rattle.reql_datum.proofs.Sends.{datum_send, name_send}
use Rattle.reql_write_spec.proofs.Sends.{body_send, def_send, write_send}
use Rattle.reql_table_spec.specs.contracts.command.Cmd as cmd
use Rattle.reql_table_spec.specs.contracts.command.Entry as entry
use Rattle.reql_table_spec.specs.contracts.command.FeedSpec as spec
use Rattle.reql_table_spec.specs.contracts.command.Order as order
use Rattle.reql_table_spec.specs.contracts.engine.Kept as kept

pub spec_send : IsSend spec.the_field.row
spec_send = search (sendable, crosses, name_send, body_send) depth 20

cmd_send : IsSend cmd.the_field.row
cmd_send = search (sendable, crosses, name_send, def_send, write_send, spec_send) depth 20

pub order_send : IsSend order.the_field.row
order_send = search (sendable, crosses, cmd_send) depth 20

pub entry_send : IsSend entry.the_field.row
entry_send = search (sendable, crosses, order_send) depth 20

pub kept_send : IsSend kept.the_field.row
kept_send = search (sendable, crosses, datum_send) depth 20
