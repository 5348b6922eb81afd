use Rattle.std.proofs.Common.{◌++◌, rules}
use Rattle.reql_tally.proofs.Tallies.{counts}
use Rattle.reql_tally.proofs.tally.tally_of.Goals as goal

pub returns : goal.returns
returns g c =
    counts c.args.limits.now.feeds c.args.limits.now.tail (c.args.older.now ++ c.args.newer.now) c.in_ok-heard.heard.changes.items _ c.in_ok-heard.ensures.changes (rw c.deref.ensures.value at c.in_ok-documents.ensures) (search rules) c.in_ok-count.ensures.feeds c.in_ok-count.ensures.folds
