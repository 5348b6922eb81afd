use Rattle.reql_feeds.specs.Turn.{told}
use Rattle.reql_feeds.proofs.Drafts.{Heard}
use Rattle.reql_feeds.proofs.drafting.hear_all.Given as goal

abbrev pub invariant-loop-place : goal.invariant-loop-place
invariant-loop-place g l =
    Heard g.F.Following.held g.F.Following.fits g.F.Following.brings g.F.Following.reads (told l.change) (g.F.Following.documents l.after) l.stamp l.entries l.initial.shadows l.shadows l.place
