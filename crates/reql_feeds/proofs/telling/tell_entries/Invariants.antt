use Rattle.std.proofs.Common.{length}
use Rattle.reql_feeds.specs.Turn.{told}
use Rattle.reql_feeds.proofs.Halves.{Half}
use Rattle.reql_feeds.proofs.telling.tell_entries.Given as goal

abbrev pub invariant-loop-plan : goal.invariant-loop-plan
invariant-loop-plan g l =
    Half g.F.Following.held g.F.Following.fits g.F.Following.installs g.F.Following.brings g.F.Following.reads (told l.change) (g.F.Following.documents l.after) l.stamp l.initial.entries l.entries l.plans.items

abbrev pub decreases-loop-plan : goal.decreases-loop-plan
decreases-loop-plan g l = length l.plans.items
