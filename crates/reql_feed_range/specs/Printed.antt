-- Items as they are queued.
use Rattle.std.specs.Prelude.{[], ◌∷◌, Bool, Option, Some, None}
use Rattle.reql_datum.specs.Plain.{Plain}
use Rattle.reql_rules.specs.Lists.{array_of}
use Rattle.reql_feed_spec.specs.Items.{Difference}
use Rattle.reql_feed_spec.specs.Shown.{Shows, shown}

abbrev pub shows : Bool → Bool → Shows
shows offsets types = record { offsets = offsets; types = types }

-- a printed item, behind a key where one is given
abbrev pub behind : Shows → Option Plain → Difference → Plain
behind s None d = shown s d
behind s (Some key) d = array_of (key ∷ shown s d ∷ [])
