-- The feeds that are asked for, as definitions speak of them.
use Rattle.reql_plan_spec.specs.Feeding as law
use Rattle.reql_plan_results.specs.Seen.{told}
use Rattle.reql_plan_changes.specs.declared.asking.Feeding.{Feeding}

abbrev pub asked : Feeding → law.Feeding
asked f = record { openings = f.openings; note = f.note; told = told f.told }
