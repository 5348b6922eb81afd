use Rattle.std.proofs.Common.{◌≡◌, ◌++◌, drop}
use Rattle.reql_rules.specs.Lists.{joined}
use Rattle.reql_apply_seq.proofs.joining.joined.Given as goal

abbrev pub invariant-loop-items : goal.invariant-loop-items
invariant-loop-items l = joined l.sequences ≡ l.all ++ joined (drop l.items-index l.sequences)
