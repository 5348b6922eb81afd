use Rattle.std.proofs.Common.{◌≡◌, ◌++◌, length}
use Rattle.reql_datum.specs.Members.{AreRising}
use Rattle.reql_scalar.specs.Two.{gathered}
use Rattle.reql_scalar.proofs.gathering.built.Given as goal

abbrev pub invariant-loop-name : goal.invariant-loop-name
invariant-loop-name l = (l.fields ++ gathered l.named.entries ≡ gathered l.fn.named.entries) × AreRising (gathered l.fn.named.entries)

abbrev pub decreases-loop-name : goal.decreases-loop-name
decreases-loop-name l = length l.named.entries
