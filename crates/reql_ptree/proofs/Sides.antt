-- What is known of a side, and of one that is a node.
use Rattle.std.proofs.Common.{◌≡◌, ℕ, ◌≤◌, List, ◌++◌, length, Option, Some, None, sym, ap, ◌∙◌, subst, arith, length-append}
use Rattle.std.specs.declared.sync.Arc.{Arc}
use Rattle.std.specs.declared.alloc.Global.{Global}
use Rattle.reql_datum.specs.Plain.{Plain}
use Rattle.reql_ptree.specs.Side.{node_pairs, side_pairs, IsNode, IsBalanced, IsNodeOf}
use Rattle.reql_ptree.specs.Pairs.{AreRising}
use Rattle.reql_ptree.specs.Tall.{least}
use Rattle.reql_ptree.proofs.Rising.{rising_none}
use Rattle.reql_ptree.proofs.Tall.{least_node, least_none}
use Rattle.reql_ptree.specs.declared.side.Node.{Node}

-- a node has as many pairs as its height needs
pub node_grown : (n : Node) (height : ℕ) → IsNode n.left.0 n.chunk n.right.0 n.left.1 n.right.1 height → least height ≤ length (node_pairs n)
node_grown n height is =
    omega (arith, is.chunk_is.some, is.left_grown, is.right_grown, least_node height n.left.1 n.right.1 is.high is.even, length-append n.left.0 (n.chunk ++ n.right.0), length-append n.chunk n.right.0)

side_grown : (o : Option (Arc Node Global)) (height : ℕ) → IsBalanced o height → least height ≤ length (side_pairs o)
side_grown None height is = rw is least_none
side_grown (Some n) height is = node_grown n.value height is

pub grown_at : (o : Option (Arc Node Global)) (height : ℕ) (d : List (Plain × Plain) × ℕ) → (side_pairs o, height) ≡ d → IsBalanced o height → least d.1 ≤ length d.0
grown_at o height d view_is is = subst (λ (v : List (Plain × Plain) × ℕ). least v.1 ≤ length v.0) view_is (side_grown o height is)

pub node_of : {o : Option (Arc Node Global)} {height : ℕ} {d : List (Plain × Plain) × ℕ} {a : Arc Node Global} → (side_pairs o, height) ≡ d → IsBalanced o height → o ≡ Some a → IsNodeOf d a.value
node_of {o} {height} {d} {a} view_is is some =
    let e : d ≡ (node_pairs a.value, height) = sym view_is ∙ ap (λ (p : Option (Arc Node Global)). (side_pairs p, height)) some in
    let at : IsNode a.value.left.0 a.value.chunk a.value.right.0 a.value.left.1 a.value.right.1 height = subst (λ (p : Option (Arc Node Global)). IsBalanced p height) some is in
    record {
      pairs = ap (λ (v : List (Plain × Plain) × ℕ). v.0) e;
      node = subst (λ (v : List (Plain × Plain) × ℕ). IsNode a.value.left.0 a.value.chunk a.value.right.0 a.value.left.1 a.value.right.1 v.1) (sym e) at;
    }

side_rising : (o : Option (Arc Node Global)) (height : ℕ) → IsBalanced o height → AreRising (side_pairs o)
side_rising None height is = rising_none
side_rising (Some n) height is = is.rising

pub rising_at : (o : Option (Arc Node Global)) (height : ℕ) (d : List (Plain × Plain) × ℕ) → (side_pairs o, height) ≡ d → IsBalanced o height → AreRising d.0
rising_at o height d view_is is = subst (λ (v : List (Plain × Plain) × ℕ). AreRising v.0) view_is (side_rising o height is)
