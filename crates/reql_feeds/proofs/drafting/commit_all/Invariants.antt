use Rattle.std.proofs.Common.{length}
use Rattle.reql_feeds.proofs.Landings.{Landing}
use Rattle.reql_feeds.proofs.drafting.commit_all.Given as goal

abbrev pub invariant-loop-shadow : goal.invariant-loop-shadow
invariant-loop-shadow g l = Landing g.F.Following.held l.initial.entries l.entries l.initial.shadows.items l.shadows.items

abbrev pub decreases-loop-shadow : goal.decreases-loop-shadow
decreases-loop-shadow g l = length l.shadows.items
