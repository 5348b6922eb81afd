-- Tables may be sent to other threads, and shared with them. `search` stops at types as deep as these, so they are shown part by part.
use denote.RattleType.{RattleType}
use denote.Param.Send.{IsSend, IsSync, sendable, view_send, view_sync}
use denote.Param.SendFields.{declared_send, as_row_send, declared_sync, as_row_sync}
use Rattle.std.proofs.Crossing.{crosses, Arc-send, Arc-sync, Vec-send, Vec-sync}
use Rattle.std.specs.contracts.alloc.Global as global
use Rattle.std.specs.contracts.impls.GlobalAllocator.TheImpl as heap
use Rattle.std.specs.contracts.option.Option as option
use Rattle.std.specs.contracts.sync.Arc as arc
use Rattle.std.specs.contracts.vec.Vec as vec
use Rattle.reql_datum.proofs.Sends.{datum_send, datum_sync, name_send, name_sync}
use Rattle.reql_datum.specs.contracts.name.Name as name
use Rattle.reql_ptree.proofs.Sends.{tree_send, tree_sync}
use Rattle.reql_ptree.specs.contracts.tree.Tree as tree
use Rattle.reql_term.proofs.op.Op.TheSendSync as op
use Rattle.reql_term.proofs.params.Params.TheSendSync as params
use Rattle.reql_term.proofs.term.Body.TheLaws.TheKnot as knot
use Rattle.reql_term.specs.contracts.term.Body as body
use Rattle.reql_term.specs.contracts.view.IndexDef as def
use Rattle.reql_table.specs.contracts.filed.FiledIndex as filed
use Rattle.reql_table.specs.contracts.table.Table as table
use Rattle.reql_table.specs.contracts.table.Table.TheInside as inside_table
use Rattle.reql_table.specs.contracts.edit.Prepared as prepared
use Rattle.reql_table.specs.contracts.edit.Prepared.TheInside as inside_prepared

ruleset parts = (datum_send, datum_sync, name_send, name_sync, params.the_send, params.the_sync, op.the_send, op.the_sync)

body_send : IsSend body.the_row
body_send = search (sendable, crosses, knot.crosses, parts) depth 20

body_sync : IsSync body.the_row
body_sync = search (sendable, crosses, knot.crosses, parts) depth 20

def_send : IsSend def.the_field.row
def_send = search (sendable, crosses, name_send, body_send) depth 20

def_sync : IsSync def.the_field.row
def_sync = search (sendable, crosses, name_sync, body_sync) depth 20

filed_send : IsSend filed.the_row
filed_send = declared_send filed.the_type (as_row_send def.the_field def_send, (search sendable, (as_row_send tree.the_field tree_send, tt)))

filed_sync : IsSync filed.the_row
filed_sync = declared_sync filed.the_type (as_row_sync def.the_field def_sync, (search sendable, (as_row_sync tree.the_field tree_sync, tt)))

abbrev indexes : RattleType
indexes = vec.the_row filed.the_row global.the_row heap.ghosts

abbrev held : RattleType
held = arc.the_row indexes global.the_row heap.ghosts

held_send : IsSend held
held_send = Arc-send indexes (Vec-send filed.the_row filed_send) (Vec-sync filed.the_row filed_sync)

held_sync : IsSync held
held_sync = Arc-sync indexes (Vec-send filed.the_row filed_send) (Vec-sync filed.the_row filed_sync)

module _ (h : RattleType) (s : IsSend h) (y : IsSync h) where
  may_send : IsSend (option.the_field h).row
  may_send = search (sendable, crosses) depth 12

  may_sync : IsSync (option.the_field h).row
  may_sync = search (sendable, crosses) depth 12

pub table_send : IsSend table.the_row
table_send = view_send inside_table.the_row _ _ _ _
    (declared_send inside_table.the_type (search (sendable, crosses) depth 20, (as_row_send tree.the_field tree_send, (as_row_send (option.the_field held) (may_send held held_send held_sync), (search sendable, tt)))))

pub table_sync : IsSync table.the_row
table_sync = view_sync inside_table.the_row _ _ _ _
    (declared_sync inside_table.the_type (search (sendable, crosses) depth 20, (as_row_sync tree.the_field tree_sync, (as_row_sync (option.the_field held) (may_sync held held_send held_sync), (search sendable, tt)))))

pub prepared_send : IsSend prepared.the_row
prepared_send = view_send inside_prepared.the_row _ _ _ _ (declared_send inside_prepared.the_type (as_row_send table.the_field table_send, tt))

pub prepared_sync : IsSync prepared.the_row
prepared_sync = view_sync inside_prepared.the_row _ _ _ _ (declared_sync inside_prepared.the_type (as_row_sync table.the_field table_sync, tt))
