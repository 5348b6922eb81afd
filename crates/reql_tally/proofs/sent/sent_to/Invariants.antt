use Rattle.std.proofs.Common.{◌≡◌, ◌++◌, drop, map}
use Rattle.reql_tally.specs.Past.{sent_to}
use Rattle.reql_tally.specs.Views.{given, stamped}
use Rattle.reql_tally.proofs.sent.sent_to.Given as goal

abbrev pub invariant-loop-batch : goal.invariant-loop-batch
invariant-loop-batch l =
    map stamped l.sent.items ++ sent_to l.whose.owner l.whose.number (map given (drop l.batch-index l.batches)) ≡ sent_to l.whose.owner l.whose.number (map given l.batches)
