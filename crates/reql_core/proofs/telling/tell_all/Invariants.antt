use Rattle.std.proofs.Common.{◌+◌, drop, map}
use Rattle.reql_table.specs.Seen.{documents_of}
use Rattle.reql_write_spec.specs.Laws.{AllCome}
use Rattle.reql_feeds.specs.Record.{records}
use Rattle.reql_feeds.specs.Turn.{told}
use Rattle.reql_core.specs.Writing.{AreAt, with_feeds}
use Rattle.reql_core.proofs.Changes.{LeadsOn}
use Rattle.reql_core.proofs.telling.tell_all.Given as goal

abbrev pub invariant-loop-place : goal.invariant-loop-place
invariant-loop-place g l =
    AreAt g.F.Following.held g.F.Following.fits g.F.Following.reads l.feeds l.now l.draft
    × AllCome (documents_of l.now) (map told (drop l.place l.changes))
    × LeadsOn g.F.Following.held l.feeds (with_feeds l.table l.stamp (records g.F.Following.held l.feeds)) (map told l.changes) l.now (l.stamp + l.place) l.draft (map told (drop l.place l.changes))
