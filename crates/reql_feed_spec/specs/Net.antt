-- What a list of items does as one: the net of a squashed feed.
use Rattle.std.specs.Prelude.{List, [], ◌∷◌, Option, Some, None, map, filter, flat_map}
use Rattle.reql_datum.specs.Plain.{Plain, Plains, array, no_items, item}
use Rattle.reql_bag.specs.Bag.{in_order}
use Rattle.reql_feed_spec.specs.Items.{Difference, point_items, range_items}
use Rattle.reql_feed_spec.specs.Shown.{or_null, read}
use Rattle.reql_rules.specs.Sorting.{distinct}
use Rattle.reql_rules.specs.Types.{same}

-- point: the one change from the first old value to the last new one
abbrev pub last_new : Difference → List Difference → Option Plain
last_new d [] = d.new
last_new d (e ∷ es) = last_new e es

abbrev pub point_net : List Difference → List Difference
point_net [] = []
point_net (d ∷ ds) = point_items (or_null d.old) (or_null (last_new d ds))

abbrev pub listed : Option Plain → List Plain
listed None = []
listed (Some v) = v ∷ []

-- all that left, and all that came
abbrev pub olds : List Difference → List Plain
olds = flat_map (λ d. listed d.old)

abbrev pub news : List Difference → List Plain
news = flat_map (λ d. listed d.new)

-- limit: what came more often than it left, and what left more often, each as often as the difference
abbrev pub bag_net : List Difference → List Difference
bag_net ds = range_items (in_order (olds ds)) (in_order (news ds))

-- range: each item stands behind the key of its document
abbrev pub Keyed : Type 0
Keyed = Plain × Difference

abbrev pub of_key : Plain → List Keyed → List Difference
of_key k is = map (λ i. i.1) (filter (λ i. same k i.0) is)

-- the keys in their order, each once
abbrev pub keys_in : List Keyed → List Plain
keys_in is = distinct (map (λ i. i.0) is)

-- the counting is done for each key by itself, so that no item joins two documents
abbrev pub range_net : List Keyed → List Difference
range_net is = flat_map (λ k. bag_net (of_key k is)) (keys_in is)

-- an array of a key and an item, as it is queued
abbrev pub keyed_in : Plains → Keyed
keyed_in no_items = (array no_items, read (array no_items))
keyed_in (item k no_items) = (k, read (array no_items))
keyed_in (item k (item d rest)) = (k, read d)

abbrev pub keyed : Plain → Keyed
keyed (array vs) = keyed_in vs
keyed v = (v, read v)
