-- Trees may be sent to other threads, and shared with them. `search` stops at types as deep as these, so they are shown part by part.
use denote.RattleType.{RattleType}
use denote.Hole.{as_row}
use denote.Param.Send.{IsSend, IsSync, sendable, view_send, view_sync}
use denote.Param.SendFields.{declared_send, as_row_send, declared_sync, as_row_sync}
use denote.Struct.Field.{u64-field}
use Rattle.std.proofs.Crossing.{crosses, Arc-send, Arc-sync, Vec-send, Vec-sync}
use Rattle.std.specs.contracts.alloc.Global as global
use Rattle.std.specs.contracts.impls.GlobalAllocator.TheImpl as heap
use Rattle.std.specs.contracts.option.Option as option
use Rattle.std.specs.contracts.sync.Arc as arc
use Rattle.std.specs.contracts.vec.Vec as vec
use Rattle.reql_datum.specs.contracts.datum.Datum as datum
use Rattle.reql_datum.proofs.Sends.{datum_send, datum_sync}
use Rattle.reql_ptree.specs.contracts.chunk.Pair as pair
use Rattle.reql_ptree.specs.contracts.chunk.Chunk as chunk
use Rattle.reql_ptree.specs.contracts.chunk.Chunk.TheInside as inside_chunk
use Rattle.reql_ptree.specs.contracts.side.Side as side
use Rattle.reql_ptree.proofs.side.Side.TheLaws.TheKnot as knot
use Rattle.reql_ptree.specs.contracts.tree.Tree as tree
use Rattle.reql_ptree.specs.contracts.tree.Tree.TheInside as inside_tree

pair_send : IsSend pair.the_row
pair_send = declared_send pair.the_type (as_row_send datum.the_field datum_send, (as_row_send datum.the_field datum_send, tt))

pair_sync : IsSync pair.the_row
pair_sync = declared_sync pair.the_type (as_row_sync datum.the_field datum_sync, (as_row_sync datum.the_field datum_sync, tt))

abbrev pairs : RattleType
pairs = vec.the_row pair.the_row global.the_row heap.ghosts

pairs_send : IsSend pairs
pairs_send = Vec-send pair.the_row pair_send

pairs_sync : IsSync pairs
pairs_sync = Vec-sync pair.the_row pair_sync

chunk_send : IsSend chunk.the_row
chunk_send = view_send inside_chunk.the_row _ _ _ _
    (declared_send inside_chunk.the_type (as_row_send datum.the_field datum_send, (as_row_send (arc.the_field pairs global.the_row heap.ghosts) (Arc-send pairs pairs_send pairs_sync), tt)))

chunk_sync : IsSync chunk.the_row
chunk_sync = view_sync inside_chunk.the_row _ _ _ _
    (declared_sync inside_chunk.the_type (as_row_sync datum.the_field datum_sync, (as_row_sync (arc.the_field pairs global.the_row heap.ghosts) (Arc-sync pairs pairs_send pairs_sync), tt)))

-- a side's node crosses where the sides in it do
module _ (h : RattleType) (s : IsSend h) (y : IsSync h) where
  node_send : IsSend (option.the_row (arc.the_row h global.the_row heap.ghosts))
  node_send = search (sendable, crosses) depth 20

  node_sync : IsSync (option.the_row (arc.the_row h global.the_row heap.ghosts))
  node_sync = search (sendable, crosses) depth 20

word_send : IsSend (as_row u64-field)
word_send = search sendable

word_sync : IsSync (as_row u64-field)
word_sync = search sendable

side_send : IsSend side.the_row
side_send = knot.both_send-Side node_send word_send (as_row_send chunk.the_field chunk_send) node_sync word_sync (as_row_sync chunk.the_field chunk_sync)

side_sync : IsSync side.the_row
side_sync = knot.both_sync-Side node_send word_send (as_row_send chunk.the_field chunk_send) node_sync word_sync (as_row_sync chunk.the_field chunk_sync)

pub tree_send : IsSend tree.the_row
tree_send = view_send inside_tree.the_row _ _ _ _ (declared_send inside_tree.the_type (search (sendable, crosses) depth 20, (as_row_send side.the_field side_send, tt)))

pub tree_sync : IsSync tree.the_row
tree_sync = view_sync inside_tree.the_row _ _ _ _ (declared_sync inside_tree.the_type (search (sendable, crosses) depth 20, (as_row_sync side.the_field side_sync, tt)))
