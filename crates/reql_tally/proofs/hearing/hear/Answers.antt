use Rattle.std.proofs.Common.{◌++◌, ◌+◌, drop, map}
use Rattle.reql_table_spec.specs.Engines.{kept_of}
use Rattle.reql_table_spec.specs.Machine.{unused}
use Rattle.reql_table_spec.specs.Replies.{said_of}
use Rattle.reql_tally.specs.Past.{batches_taken}
use Rattle.reql_tally.specs.Views.{given, made}
use Rattle.reql_tally.proofs.Tallies.{hears_changes, hears_batches, heard_changes, heard_batches}
use Rattle.reql_tally.proofs.hearing.hear.Goals as goal

pub loop-entry-preserved : goal.loop-entry-preserved
loop-entry-preserved g c = (
  hears_changes (made (unused c.args.limits.now.feeds c.args.limits.now.tail) (c.args.older.now ++ c.args.newer.now)) (map kept_of c.loop-entry.heard.changes.items) (map kept_of c.add.new.heard.changes.items) (map kept_of c.in_ok-ran.ran.kept.items)
      c.loop-entry.replica c.run.new.self (drop c.loop-entry.place (c.args.older.now ++ c.args.newer.now)) (drop (c.loop-entry.place + 1) (c.args.older.now ++ c.args.newer.now)) c.in-Some.entry.now
      c.in-Some.ensures.rest c.in_ok-ran.ensures.state c.loop-entry.invariant.0 c.in_ok-add.ensures.changes c.in_ok-ran.ensures.kept,
  hears_batches (batches_taken (unused c.args.limits.now.feeds c.args.limits.now.tail) (c.args.older.now ++ c.args.newer.now)) (map given c.loop-entry.heard.batches.items) (map given c.add.new.heard.batches.items)
      c.loop-entry.replica c.run.new.self (drop c.loop-entry.place (c.args.older.now ++ c.args.newer.now)) (drop (c.loop-entry.place + 1) (c.args.older.now ++ c.args.newer.now)) c.in-Some.entry.now (said_of c.in_ok-ran.ran.said)
      c.in-Some.ensures.rest c.in_ok-ran.ensures.state c.loop-entry.invariant.1 c.in_ok-add.ensures.batches c.in_ok-ran.ensures.said,
)

pub returns-clause-changes : goal.returns-clause-changes
returns-clause-changes g c =
    heard_changes (made (unused c.args.limits.now.feeds c.args.limits.now.tail) (c.args.older.now ++ c.args.newer.now)) (map kept_of c.loop-entry.heard.changes.items) c.loop-entry.replica (drop c.loop-entry.place (c.args.older.now ++ c.args.newer.now))
    c.in_default.ensures.rest c.loop-entry.invariant.0

pub returns-clause-batches : goal.returns-clause-batches
returns-clause-batches g c =
    heard_batches (batches_taken (unused c.args.limits.now.feeds c.args.limits.now.tail) (c.args.older.now ++ c.args.newer.now)) (map given c.loop-entry.heard.batches.items) c.loop-entry.replica (drop c.loop-entry.place (c.args.older.now ++ c.args.newer.now))
    c.in_default.ensures.rest c.loop-entry.invariant.1
