use Rattle.std.proofs.Common.{◌≡◌, drop, map}
use Rattle.reql_datum.specs.Members.{find}
use Rattle.reql_operand.specs.Tables.{database}
use Rattle.reql_apply_table.proofs.telling.database_number.Given as goal

abbrev pub invariant-loop-database : goal.invariant-loop-database
invariant-loop-database g l = find l.name (map database l.world.databases.items) ≡ find l.name (map database (drop l.database-index l.world.databases.items))
