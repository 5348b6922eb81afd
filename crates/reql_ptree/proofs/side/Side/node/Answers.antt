use Rattle.reql_ptree.proofs.Sides.{node_of}
use Rattle.reql_ptree.proofs.side.Side.node.Goals as goal

pub returns-in-Some : goal.returns-in-Some
returns-in-Some c = rw c.deref.ensures (node_of c.self.view_is c.self.invariant.0 c.in-Some.is)
