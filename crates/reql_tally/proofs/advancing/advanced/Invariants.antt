use Rattle.std.proofs.Common.{◌≡◌, ◌-◌, map}
use Rattle.reql_table_spec.specs.Engines.{kept_of}
use Rattle.reql_table.specs.Seen.{documents_of, indexes_of}
use Rattle.reql_tally.specs.Views.{docs_after}
use Rattle.reql_tally.proofs.advancing.advanced.Given as goal

abbrev pub invariant-loop-place : goal.invariant-loop-place
invariant-loop-place l =
    (docs_after (documents_of l.now) (map kept_of l.changes) l.place l.to ≡ docs_after (documents_of l.fn.table) (map kept_of l.changes) l.from l.to)
    × (indexes_of l.now ≡ indexes_of l.fn.table)

abbrev pub decreases-loop-place : goal.decreases-loop-place
decreases-loop-place l = l.to - l.place
