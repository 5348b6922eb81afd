-- When items follow from a value: what leaves is there.
use Rattle.std.specs.Prelude.{◌≡◌, ◌≤◌, List, [], ◌∷◌, Option, Some, None, flat_map}
use Rattle.reql_datum.specs.Plain.{Plain}
use Rattle.reql_bag.specs.Bag.{times}
use Rattle.reql_feed_spec.specs.Items.{Difference}
use Rattle.reql_feed_spec.specs.Shown.{or_null}
use Rattle.reql_feed_spec.specs.Fold.{leaving, coming}
use Rattle.reql_feed_spec.specs.Net.{Keyed, of_key, keys_in}

-- a point feed's items begin at the value
abbrev pub PointFollows : Plain → List Difference → Type 0
PointFollows v [] = Unit {0}
PointFollows v (d ∷ ds) = or_null d.old ≡ v

abbrev pub IsThere : Option Plain → List Plain → Type 0
IsThere None vs = Unit {0}
IsThere (Some v) vs = 1 ≤ times v vs

-- each value that leaves a bag is in it then
abbrev pub BagFollows : List Plain → List Difference → Type 0
BagFollows vs [] = Unit {0}
BagFollows vs (d ∷ ds) = IsThere d.old vs × BagFollows (coming d.new (leaving d.old vs)) ds

-- of a range feed: each document has its part of the bag, from which its items follow
pub record PartsFollow (vs : List Plain) (is : List Keyed) : Type 0 where
  pub part : Plain → List Plain
  pub follow : (k : Plain) → BagFollows (part k) (of_key k is)
  pub within : (v : Plain) → times v (flat_map part (keys_in is)) ≤ times v vs
