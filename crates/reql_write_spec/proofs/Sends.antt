-- Writes may go to another thread, with the terms that they hold. `search` stops at types as deep as these, so they are shown part by part.
use denote.Param.Send.{IsSend, sendable}
use Rattle.std.proofs.Crossing.{crosses}
use Rattle.reql_datum.proofs.Sends.{documents, items_send, name_send}
use Rattle.reql_term.proofs.op.Op.TheSendSync as op
use Rattle.reql_term.proofs.params.Params.TheSendSync as params
use Rattle.reql_term.proofs.term.Body.TheLaws.TheKnot as knot
use Rattle.reql_term.specs.contracts.term.Body as body
use Rattle.reql_term.specs.contracts.view.IndexDef as def
use Rattle.reql_write_spec.specs.contracts.command.Act as act
use Rattle.reql_write_spec.specs.contracts.command.WriteCmd as write

ruleset parts = (documents, params.the_send, params.the_sync, op.the_send, op.the_sync)

pub body_send : IsSend body.the_row
body_send = search (sendable, crosses, knot.crosses, parts) depth 20

pub def_send : IsSend def.the_field.row
def_send = search (sendable, crosses, name_send, body_send) depth 20

act_send : IsSend act.the_field.row
act_send = search (sendable, crosses, items_send, body_send) depth 20

pub write_send : IsSend write.the_field.row
write_send = search (sendable, crosses, name_send, act_send) depth 20
