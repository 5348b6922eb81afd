-- How a client folds what a feed told over the value that it had, where it looks at what it is told: what leaves is there, and each place is within
-- the list (changefeed documentation).
use Rattle.std.specs.Prelude.{◌≡◌, ℕ, suc, List, [], ◌∷◌, length, Option, Some, None, option_and_then, is_some, is_none, Bool, true, false, not, ◌&&◌, ◌||◌, map, cond, nat_lt, codes}
use Rattle.std.specs.List.{list_any}
use Rattle.reql_datum.specs.Plain.{Plain}
use Rattle.reql_rules.specs.Types.{same}
use Rattle.reql_bag.specs.Bag.{in_order}
use Rattle.reql_feed_spec.specs.Items.{present}
use Rattle.reql_feed_spec.specs.Fold.{bag_fold, list_fold, cut}
use Rattle.reql_feed_spec.specs.Follows.{BagFollows}
use Rattle.reql_feed_spec.specs.Shown.{member_at, place_of, read}
use Rattle.reql_load.specs.declared.steps.Way.{Way}
use Rattle.reql_load.specs.declared.steps.Way.TheVariants as ways

-- items that tell that others were dropped, those that tell of the feed itself, which are not folded, and those that are folded and name no place
abbrev pub has : List ℕ → Plain → Bool
has name item = is_some (member_at name item)

abbrev pub is_skip : Plain → Bool
is_skip = has (codes "error")

abbrev pub is_state : Plain → Bool
is_state = has (codes "state")

abbrev pub lacks_offsets : Plain → Bool
lacks_offsets item = not (is_state item || has (codes "old_offset") item || has (codes "new_offset") item)

-- one element that equals what left is there
abbrev pub is_there : Option Plain → List Plain → Bool
is_there None vs = true
is_there (Some v) vs = list_any (same v) vs

-- an offset stands below n where it is a number from 0 below it; where it is null or not there, it is none
abbrev pub stands_below : ℕ → Option ℕ → Bool → Bool
stands_below n None is_absent = is_absent
stands_below n (Some k) is_absent = nat_lt k n

abbrev pub is_below : ℕ → Option Plain → Bool
is_below n offset = stands_below n (option_and_then place_of offset) (is_none (option_and_then present offset))

-- one item, over a bag that is kept in order, and over a list by its places: an element is deleted before one is inserted, so that it may come last
abbrev pub bag_step : List Plain → Plain → Option (List Plain)
bag_step vs item = cond (is_there (read item).old vs) (Some (bag_fold vs (read item ∷ []))) None

abbrev pub list_step : List Plain → Plain → Option (List Plain)
list_step vs item =
    cond (is_below (length vs) (member_at (codes "old_offset") item) && is_below (suc (length (cut (read item).old_at vs))) (member_at (codes "new_offset") item))
    (Some (list_fold vs (read item ∷ []))) None

abbrev pub step_by : Way → List Plain → Plain → Option (List Plain)
step_by ways.AsBag = bag_step
step_by ways.ByPlaces = list_step

abbrev pub step : Way → List Plain → Plain → Option (List Plain)
step way vs item = cond (is_state item) (Some vs) (step_by way vs item)

abbrev pub folded_by : Way → List Plain → List Plain → Option (List Plain)
folded_by way vs [] = Some vs
folded_by way vs (item ∷ items) = option_and_then (λ ws. folded_by way ws items) (step way vs item)

-- all items over the value before them: as a bag, where one that is folded lacks offsets, and else by their places; none where an item was dropped
abbrev pub folded : List Plain → List Plain → Option (List Plain)
folded opening items =
    cond (list_any is_skip items) None
    (cond (list_any lacks_offsets items) (folded_by ways.AsBag (in_order opening) items) (folded_by ways.ByPlaces opening items))

-- of items that are all folded: as a bag they are exactly where each value that leaves is there, and what they fold to is what the folds of feeds make of
-- them as a client reads them
abbrev pub FoldsAsBag : Type 0
FoldsAsBag = (vs ws items : List Plain) → list_any is_state items ≡ false → folded_by ways.AsBag vs items ≡ Some ws → BagFollows vs (map read items) × (bag_fold vs (map read items) ≡ ws)

abbrev pub BagsThatFollowFold : Type 0
BagsThatFollowFold = (vs items : List Plain) → list_any is_state items ≡ false → BagFollows vs (map read items) → folded_by ways.AsBag vs items ≡ Some (bag_fold vs (map read items))

abbrev pub FoldsByPlaces : Type 0
FoldsByPlaces = (vs ws items : List Plain) → list_any is_state items ≡ false → folded_by ways.ByPlaces vs items ≡ Some ws → list_fold vs (map read items) ≡ ws
