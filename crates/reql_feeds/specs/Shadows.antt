-- What shadows are seen as.
use Rattle.std.specs.Prelude.{List, map}
use Rattle.reql_squash.specs.Told.{items_seen}
use Rattle.reql_feeds.specs.Ahead.{Pending}
use Rattle.reql_feeds.specs.declared.shadow.Shadow.{Shadow}

module _ {F : Type 0} where
  abbrev pub pending : Shadow F → Pending F
  pending s = record { kept = s.kept; items = items_seen s.items.items }

  abbrev pub all_pending : List (Shadow F) → List (Pending F)
  all_pending = map pending
