use Rattle.std.proofs.Common.{◌≡◌, drop, map}
use Rattle.reql_write_spec.specs.Write.{errors_in, first}
use Rattle.reql_write.specs.Seen.{seen}
use Rattle.reql_write.proofs.counting.first_error.Given as goal

abbrev pub invariant-loop-one : goal.invariant-loop-one
invariant-loop-one l = first (errors_in (map seen (drop l.one-index l.treated))) ≡ first (errors_in (map seen l.treated))
