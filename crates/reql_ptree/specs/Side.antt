-- What a side of a tree is seen as, and what holds of it: its pairs in order, and its height.
use Rattle.std.specs.Prelude.{◌≡◌, ℕ, ◌+◌, ◌≤◌, max, List, [], ◌++◌, length, Option, Some, None}
use Rattle.std.specs.declared.sync.Arc.{Arc}
use Rattle.std.specs.declared.alloc.Global.{Global}
use Rattle.reql_datum.specs.Plain.{Plain}
use Rattle.reql_ptree.specs.Pairs.{AreRising}
use Rattle.reql_ptree.specs.Chunk.{IsChunk}
use Rattle.reql_ptree.specs.Tall.{least, DifferByAtMost}
use Rattle.reql_ptree.specs.declared.side.Node.{Node}

-- the pairs of a node in order
abbrev pub node_pairs : Node → List (Plain × Plain)
node_pairs n = n.left.0 ++ (n.chunk ++ n.right.0)

abbrev pub side_pairs : Option (Arc Node Global) → List (Plain × Plain)
side_pairs None = []
side_pairs (Some n) = node_pairs n.value

-- the keys rise, the height is right, the sides differ by at most one, and each part has as many pairs as its height needs
pub record IsNode (left chunk right : List (Plain × Plain)) (left_height right_height height : ℕ) : Type 0 where
  pub rising : AreRising (left ++ (chunk ++ right))
  pub chunk_is : IsChunk chunk
  pub high : height ≡ max left_height right_height + 1
  pub even : DifferByAtMost 1 left_height right_height
  pub left_grown : least left_height ≤ length left
  pub right_grown : least right_height ≤ length right

abbrev pub IsBalanced : Option (Arc Node Global) → ℕ → Type 0
IsBalanced None height = height ≡ 0
IsBalanced (Some n) height = IsNode n.value.left.0 n.value.chunk n.value.right.0 n.value.left.1 n.value.right.1 height

-- its height and its number of pairs are known
abbrev pub IsSide : Option (Arc Node Global) → ℕ → ℕ → Type 0
IsSide o height size = IsBalanced o height × (size ≡ length (side_pairs o))

-- a side is this node
pub record IsNodeOf (d : List (Plain × Plain) × ℕ) (n : Node) : Type 0 where
  pub pairs : d.0 ≡ node_pairs n
  pub node : IsNode n.left.0 n.chunk n.right.0 n.left.1 n.right.1 d.1

-- the height h of what a node with sides l and r settles to
pub record Settles (l r h : ℕ) : Type 0 where
  pub not_lower : max l r ≤ h
  pub one_higher : h ≤ max l r + 1
  pub even : DifferByAtMost 1 l r → h ≡ max l r + 1
