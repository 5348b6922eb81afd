-- Each side of a node has fewer pairs than the node.
use Rattle.std.specs.Prelude.{ℕ, ◌≤◌, ◌++◌, length, Option, Some, None}
use Rattle.std.specs.declared.sync.Arc.{Arc}
use Rattle.std.specs.declared.alloc.Global.{Global}
use Rattle.std.proofs.Common.{arith, length-append}
use Rattle.reql_ptree.specs.Side.{side_pairs, IsBalanced}
use Rattle.reql_ptree.specs.declared.side.Node.{Node}
use Rattle.reql_ptree.specs.declared.side.Side.TheDeep.{deep-Side}

pub sides_fall : (n : Option (Arc Node Global)) (height size : ℕ) → IsBalanced n height → deep-Side (record { node = n; height = height; size = size }) ≤ length (side_pairs n)
sides_fall None height size is = omega arith
sides_fall (Some n) height size is =
    omega (arith, is.chunk_is.some, length-append n.value.left.0 (n.value.chunk ++ n.value.right.0), length-append n.value.chunk n.value.right.0)
