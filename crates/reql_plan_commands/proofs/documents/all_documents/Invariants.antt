use Rattle.std.proofs.Common.{◌≡◌, ◌++◌, ◌-◌, drop, length, Ok}
use Rattle.reql_datum.specs.Answer.{◌>>=◌}
use Rattle.reql_rules.specs.Lists.{each}
use Rattle.reql_plan_spec.specs.Writes.{document}
use Rattle.reql_plan_commands.proofs.documents.all_documents.Given as goal

abbrev pub decreases-loop-datum : goal.decreases-loop-datum
decreases-loop-datum l = length l.items - l.place

abbrev pub invariant-loop-datum : goal.invariant-loop-datum
invariant-loop-datum l = each document l.items ≡ (each document (drop l.place l.items) >>= λ ds. Ok (l.docs ++ ds))
