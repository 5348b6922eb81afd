-- Documents may be sent to other threads, and shared with them: cite these where `search` stops at a type that holds several.
use denote.Param.Send.{IsSend, IsSync, sendable}
use Rattle.std.proofs.Crossing.{crosses}
use Rattle.reql_datum.specs.contracts.datum.Datum as datum
use Rattle.reql_datum.specs.contracts.datum.Items as items
use Rattle.reql_datum.specs.contracts.datum.Fields as fields
use Rattle.reql_datum.specs.contracts.name.Name as names
use Rattle.reql_datum.proofs.datum.Fields.TheLaws.TheKnot as knot
use Rattle.reql_datum.proofs.shape.Shape.TheSendSync as shape
use Rattle.reql_datum.proofs.whole.Whole.TheSendSync as whole
use Rattle.reql_datum.proofs.blob.Blob.TheSendSync as blob
use Rattle.reql_datum.proofs.moment.Moment.TheSendSync as moment
use Rattle.reql_datum.proofs.name.Name.TheSendSync as name

ruleset parts = (shape.the_send, shape.the_sync, whole.the_send, whole.the_sync, blob.the_send, blob.the_sync, moment.the_send, moment.the_sync, name.the_send, name.the_sync)

pub datum_send : IsSend datum.the_field.row
datum_send = search (sendable, crosses, knot.crosses, parts) depth 20

pub datum_sync : IsSync datum.the_field.row
datum_sync = search (sendable, crosses, knot.crosses, parts) depth 20

pub items_send : IsSend items.the_field.row
items_send = search (sendable, crosses, knot.crosses, parts) depth 20

pub items_sync : IsSync items.the_field.row
items_sync = search (sendable, crosses, knot.crosses, parts) depth 20

pub fields_send : IsSend fields.the_row
fields_send = search (sendable, crosses, knot.crosses, parts) depth 20

pub fields_sync : IsSync fields.the_row
fields_sync = search (sendable, crosses, knot.crosses, parts) depth 20

pub name_send : IsSend names.the_row
name_send = name.the_send

pub name_sync : IsSync names.the_row
name_sync = name.the_sync

pub ruleset documents = (datum_send, datum_sync, items_send, items_sync, fields_send, fields_sync, name_send, name_sync)
