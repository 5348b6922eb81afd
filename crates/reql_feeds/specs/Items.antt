-- What was prepared of a change.
use Rattle.std.specs.Prelude.{List, [], map, Option, Some, None}
use Rattle.reql_datum.specs.Plain.{Plain}
use Rattle.reql_datum.specs.View.{plain}
use Rattle.reql_feeds.specs.declared.prepared.Prepared.{Prepared}

-- the items that are queued
abbrev pub items_in : {S : Type 0} → Option (Prepared S) → List Plain
items_in None = []
items_in (Some p) = map plain p.items
