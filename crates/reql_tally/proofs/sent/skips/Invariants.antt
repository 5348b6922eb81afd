use Rattle.std.proofs.Common.{◌≡◌, drop, map}
use Rattle.reql_tally.specs.Past.{skips}
use Rattle.reql_tally.specs.Views.{given}
use Rattle.reql_tally.proofs.sent.skips.Given as goal

abbrev pub invariant-loop-batch : goal.invariant-loop-batch
invariant-loop-batch l = skips l.whose.owner l.whose.number (map given (drop l.batch-index l.batches)) ≡ skips l.whose.owner l.whose.number (map given l.batches)
