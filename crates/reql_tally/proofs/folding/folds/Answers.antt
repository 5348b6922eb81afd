use Rattle.std.proofs.Common.{ap, map}
use Rattle.reql_table_spec.specs.Engines.{kept_of}
use Rattle.reql_table_spec.specs.Table.{held}
use Rattle.reql_table.specs.Seen.{documents_of, indexes_of}
use Rattle.reql_tally.specs.Views.{given}
use Rattle.reql_tally.proofs.Tallies.{skipped, folds_there}
use Rattle.reql_tally.proofs.folding.folds.Goals as goal

pub returns-then-skips : goal.returns-then-skips
returns-then-skips g c =
    skipped (held (indexes_of c.args.table) c.args.spec.now) (documents_of c.args.table) (map kept_of c.args.heard.now.changes.items) (map given c.args.heard.now.batches.items) c.args.whose.owner c.args.whose.number c.args.stamp c.skips.result
    (rw c.deref.ensures.value at c.skips.ensures) c.if-skips.true

pub returns : goal.returns
returns g c =
    folds_there (held (indexes_of c.args.table) c.args.spec.now) (held (indexes_of c.in_ok-later.later) c.args.spec.now) (documents_of c.args.table) (documents_of c.in_ok-later.later) (map kept_of c.args.heard.now.changes.items)
    (map given c.args.heard.now.batches.items) c.args.whose.owner c.args.whose.number c.args.stamp c.latest-last.result c.in_ok-items.items.items c.in_ok-opening.opening c.in_ok-wanted.wanted c.in_ok-folds.folds c.skips.result
    (rw c.deref.ensures.value at c.skips.ensures) c.if-skips.false (rw c.deref-2.ensures.value at c.in_ok-items.ensures) (rw c.deref-3.ensures.value at c.latest-last.ensures) c.in_ok-opening.ensures (ap (λ is. held is c.args.spec.now) c.in_ok-later.ensures.indexes) (rw c.deref-4.ensures.value at c.in_ok-later.ensures.documents) c.in_ok-wanted.ensures (rw c.deref-5.ensures.value at c.in_ok-folds.ensures)
