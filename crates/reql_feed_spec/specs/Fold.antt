-- How a client follows a feed: it folds the items over the value that it had.
use Rattle.std.specs.Prelude.{ℕ, List, [], ◌∷◌, Option, Some, None, not, filter}
use Rattle.std.specs.List.{insert, remove}
use Rattle.reql_datum.specs.Plain.{Plain}
use Rattle.reql_bag.specs.Bag.{without_one}
use Rattle.reql_feed_spec.specs.Items.{Difference}
use Rattle.reql_feed_spec.specs.Shown.{or_null}
use Rattle.reql_rules.specs.Types.{is_null}
use Rattle.reql_rules.specs.Sorting.{into_place}
use Rattle.reql_datum.specs.Order.{order}

-- point: the value becomes what came
abbrev pub point_fold : Plain → List Difference → Plain
point_fold v [] = v
point_fold v (d ∷ ds) = point_fold (or_null d.new) ds

abbrev pub leaving : Option Plain → List Plain → List Plain
leaving None vs = vs
leaving (Some v) vs = without_one v vs

abbrev pub coming : Option Plain → List Plain → List Plain
coming None vs = vs
coming (Some v) vs = into_place order v vs

-- range, and limit without offsets: one that equals what left leaves the bag, and what came joins it
abbrev pub bag_fold : List Plain → List Difference → List Plain
bag_fold vs [] = vs
bag_fold vs (d ∷ ds) = bag_fold (coming d.new (leaving d.old vs)) ds

-- of a range feed's value, since a null is read as absence
abbrev pub without_nulls : List Plain → List Plain
without_nulls = filter (λ v. not (is_null v))

abbrev pub cut : Option ℕ → List Plain → List Plain
cut None vs = vs
cut (Some k) vs = remove vs k

abbrev pub put_at : Option ℕ → Option Plain → List Plain → List Plain
put_at None new vs = vs
put_at (Some k) None vs = vs
put_at (Some k) (Some v) vs = insert vs k v

-- limit with offsets: the element at the old place is deleted, then what came is inserted at the new place
abbrev pub list_fold : List Plain → List Difference → List Plain
list_fold vs [] = vs
list_fold vs (d ∷ ds) = list_fold (put_at d.new_at d.new (cut d.old_at vs)) ds
