use Rattle.std.proofs.Common.{◌≡◌, take}
use Rattle.reql_feeds.specs.Seen.{all_sized}
use Rattle.reql_feeds.specs.Told.{Planned}
use Rattle.reql_feeds.specs.Turn.{told}
use Rattle.reql_feeds.proofs.telling.prepare_all.Given as goal

abbrev pub invariant-loop-place : goal.invariant-loop-place
invariant-loop-place g l =
    (all_sized l.entries ≡ all_sized l.initial.entries)
    × Planned g.F.Following.held g.F.Following.fits g.F.Following.installs g.F.Following.brings (told l.change) (g.F.Following.documents l.after) 0 (take l.place l.entries) l.plans.items
