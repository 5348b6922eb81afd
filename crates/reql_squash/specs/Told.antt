-- Items as they are queued and told.
use Rattle.std.specs.Prelude.{ℕ, List, [], map, flat_map, Option, option_and_then, Bool, false}
use Rattle.reql_datum.specs.Plain.{Plain, array}
use Rattle.reql_datum.specs.Plain.{listed as listed_in}
use Rattle.reql_datum.specs.View.{plain}
use Rattle.reql_datum.specs.declared.datum.Datum.{Datum}
use Rattle.reql_feed_spec.specs.Items.{Difference, present}
use Rattle.reql_feed_spec.specs.Net.{listed, keyed, bag_net}
use Rattle.reql_feed_spec.specs.Shown.{Shows, shown, read, member_at}

-- an item with its stamp, as what it stands for
abbrev pub item_seen : ℕ × Datum → ℕ × Plain
item_seen p = (p.0, plain p.1)

abbrev pub items_seen : List (ℕ × Datum) → List (ℕ × Plain)
items_seen = map item_seen

abbrev pub without_offsets : Bool → Shows
without_offsets types = record { offsets = false; types = types }

-- differences as items of one stamp
abbrev pub told : ℕ → Bool → List Difference → List (ℕ × Plain)
told stamp types ds = map (λ d. (stamp, shown (without_offsets types) d)) ds

-- what stands at a name of an item, absent where it is null
abbrev pub side_of : List ℕ → Plain → Option Plain
side_of name item = option_and_then present (member_at name item)

abbrev pub sides_of : List ℕ → List Plain → List Plain
sides_of name items = flat_map (λ i. listed (side_of name i)) items

-- the keys of items behind keys, and the items
abbrev pub keys_of_items : List Plain → List Plain
keys_of_items items = map (λ i. (keyed i).0) items

-- the net of the items of one key, as they stand in a group
abbrev pub members_net : List Plain → List Difference
members_net vs = bag_net (map read vs)

abbrev pub group_net : Plain → List Difference
group_net (array vs) = members_net (listed_in vs)
group_net v = []

abbrev pub groups_net : List (Plain × Plain) → List Difference
groups_net gs = flat_map (λ g. group_net g.1) gs
