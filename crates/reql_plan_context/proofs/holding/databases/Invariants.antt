use Rattle.std.proofs.Common.{◌≡◌, ◌++◌, ◌-◌, drop, length, map}
use Rattle.reql_operand.specs.Tables.{database}
use Rattle.reql_plan_context.proofs.holding.databases.Given as goal

abbrev pub decreases-loop-name : goal.decreases-loop-name
decreases-loop-name l = length l.names.dbs - l.place

abbrev pub invariant-loop-name : goal.invariant-loop-name
invariant-loop-name l = map database l.found.items ++ map (λ d. (d.0, d.1.number)) (drop l.place l.names.dbs) ≡ map (λ d. (d.0, d.1.number)) l.names.dbs
