use Rattle.std.proofs.Common.{◌≡◌, map, take}
use Rattle.reql_datum.specs.Plain.{text}
use Rattle.reql_catalog.specs.declared.map.Row.{Row}
use Rattle.reql_catalog.proofs.map.names_of.Given as goal

abbrev pub invariant-loop-row : goal.invariant-loop-row
invariant-loop-row g l = l.names ≡ map (λ (r : Row g.row.V.Denot). text r.name) (take l.row-index l.rows)
