use Rattle.reql_ptree.proofs.Sides.{grown_at, rising_at}
use Rattle.reql_ptree.proofs.side.Side.height.Goals as goal

pub returns-clause-grown : goal.returns-clause-grown
returns-clause-grown c = grown_at _ _ _ c.self.view_is c.self.invariant.0

pub returns-clause-rising : goal.returns-clause-rising
returns-clause-rising c = rising_at _ _ _ c.self.view_is c.self.invariant.0
