-- A feed that looks at one document alone.
use Rattle.std.specs.Prelude.{◌≡◌, List, [], Bool, false, not, Option, Some, None}
use Rattle.reql_datum.specs.Plain.{Plain}
use Rattle.reql_rules.specs.Types.{same}
use Rattle.reql_term.specs.Views.{Document}
use Rattle.reql_table_spec.specs.Table.{Held}
use Rattle.reql_write_spec.specs.Treated.{Changed}
use Rattle.reql_feeds.specs.Turn.{undone, due, Leads}

module _ {F : Type 0} (held : F → Held) (fits : F → List Document → Type 0) where
  -- a change that led to these documents is nothing to a feed: nothing is queued for it, and it is at the documents after it as it stands
  pub record IsNothing (f : F) (x : Changed) (after : List Document) : Type 0 where
    pub none : due (held f) x after ≡ []
    pub stays : fits f after

  -- a change of any document but that at this key is nothing to a feed
  abbrev pub IsOfOne : F → Plain → Type 0
  IsOfOne f key = (x : Changed) (after : List Document) → Leads x after → fits f (undone x after) → same key x.key ≡ false → IsNothing f x after

-- a document is another than the only one that a feed looks at
abbrev pub is_other : Option Plain → Plain → Bool
is_other None k = false
is_other (Some key) k = not (same key k)
