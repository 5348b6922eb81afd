use Rattle.std.proofs.Common.{◌++◌, ◌+◌, drop, map, refl}
use Rattle.reql_table_spec.specs.Engines.{kept_of}
use Rattle.reql_table_spec.specs.Machine.{unused}
use Rattle.reql_tally.specs.Views.{given}
use Rattle.reql_tally.proofs.Counted.{along_first, along_next, along_last}
use Rattle.reql_tally.proofs.counting.count.Goals as goal

pub loop-entry-init : goal.loop-entry-init
loop-entry-init g c = along_first (unused c.args.limits.now.feeds c.args.limits.now.tail) c.in_ok-replica.replica (c.args.older.now ++ c.args.newer.now) c.in_ok-replica.ensures

pub loop-entry-preserved : goal.loop-entry-preserved
loop-entry-preserved g c =
    along_next (unused c.args.limits.now.feeds c.args.limits.now.tail) c.loop-entry.replica c.pass.new.replica (c.args.older.now ++ c.args.newer.now) (drop c.loop-entry.place (c.args.older.now ++ c.args.newer.now))
    (drop (c.loop-entry.place + 1) (c.args.older.now ++ c.args.newer.now)) c.in-Some.entry.now (map kept_of c.args.heard.now.changes.items) (map given c.args.heard.now.batches.items) c.in_ok-told.told
    c.loop-entry.place c.loop-entry.count.feeds c.loop-entry.count.folds c.counted-count.result.feeds c.counted-count.result.folds
    refl c.requires.changes c.requires.batches c.in-Some.ensures.rest c.in_ok-told.ensures.state c.in_ok-told.ensures.told c.counted-count.ensures.feeds c.counted-count.ensures.folds c.loop-entry.invariant

pub returns-clause-feeds : goal.returns-clause-feeds
returns-clause-feeds g c =
    (along_last (unused c.args.limits.now.feeds c.args.limits.now.tail) c.loop-entry.replica (c.args.older.now ++ c.args.newer.now) (drop c.loop-entry.place (c.args.older.now ++ c.args.newer.now)) c.loop-entry.place c.loop-entry.count.feeds c.loop-entry.count.folds
    c.in_default.ensures.rest c.loop-entry.invariant).0

pub returns-clause-folds : goal.returns-clause-folds
returns-clause-folds g c =
    (along_last (unused c.args.limits.now.feeds c.args.limits.now.tail) c.loop-entry.replica (c.args.older.now ++ c.args.newer.now) (drop c.loop-entry.place (c.args.older.now ++ c.args.newer.now)) c.loop-entry.place c.loop-entry.count.feeds c.loop-entry.count.folds
    c.in_default.ensures.rest c.loop-entry.invariant).1
