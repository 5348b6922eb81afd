-- The members of an object in the making.
use Rattle.std.specs.Prelude.{List, Option, Some, None}
use Rattle.std.specs.BTreeMap.{BTreeMap}
use Rattle.reql_datum.specs.Plain.{Plain}
use Rattle.reql_datum.specs.declared.datum.Datum.{Datum}
use Rattle.reql_rules.specs.Lists.{Bytes}
use Rattle.reql_scalar.specs.Two.{gathered}

-- those of the map, or where there is none those in place
abbrev pub members_of : List (Bytes × Plain) → Option (BTreeMap Bytes Datum) → List (Bytes × Plain)
members_of ms None = ms
members_of ms (Some named) = gathered named.entries
