use Rattle.std.proofs.Common.{◌≡◌, ◌-◌, ℕ, List, Some}
use Rattle.reql_disk.specs.Disk.{Past}
use Rattle.reql_blocks.specs.Recovery.{HasRead}
use Rattle.reql_table_records.specs.Standing.{stands}
use Rattle.reql_journal.specs.Opening.{Stood}
use Rattle.reql_journal.proofs.opening.read_all.Given as goal

abbrev pub invariant-loop-why : goal.invariant-loop-why
invariant-loop-why g l = record {
  faults : l.reader.told.faults ≡ l.initial.reader.told.faults;
  sound : l.reader.told.sound ≡ l.initial.reader.told.sound;
  reads : (bodies : List (List ℕ)) (past : Past) → HasRead bodies past l.initial.reader → stands bodies ≡ Some (g.T.Restores.standing l.initial.table) → Stood past l.reader (g.T.Restores.standing l.table);
}

abbrev pub decreases-loop-why : goal.decreases-loop-why
decreases-loop-why g l = l.reader.size - l.reader.gate
