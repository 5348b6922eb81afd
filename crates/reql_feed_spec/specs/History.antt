-- What a feed is told along a list of changes.
use Rattle.std.specs.Prelude.{ℕ, List, [], ◌∷◌, ◌++◌, map}
use Rattle.reql_datum.specs.Plain.{Plain}
use Rattle.reql_term.specs.Views.{Document}
use Rattle.reql_feed_spec.specs.Items.{Difference, point_items, range_items, limit_items}
use Rattle.reql_feed_spec.specs.Shown.{Shows, shown, read}
use Rattle.reql_feed_spec.specs.Value.{Change, Shape, Selection, changed, point_value, range_value, limit_value}
use Rattle.reql_feed_spec.specs.Moves.{IsOneMove}
use Rattle.reql_feed_spec.specs.Net.{Keyed}

abbrev pub after_all : List Document → List Change → List Document
after_all docs [] = docs
after_all docs (c ∷ cs) = after_all (changed c.0 c.1 docs) cs

-- the items of one change after another, each told of its key and the documents before and after it
abbrev pub along : {A : Type 0} → (Plain → List Document → List Document → List A) → List Document → List Change → List A
along items docs [] = []
along items docs (c ∷ cs) = items c.0 docs (changed c.0 c.1 docs) ++ along items (changed c.0 c.1 docs) cs

-- an item as it was printed and read
abbrev pub hear : Shows → Difference → Difference
hear s d = read (shown s d)

abbrev pub point_step : Shows → Plain → Plain → List Document → List Document → List Difference
point_step s key k before after = map (hear s) (point_items (point_value key before) (point_value key after))

abbrev pub range_step : Shows → Shape → Plain → List Document → List Document → List Difference
range_step s shape k before after = map (hear s) (range_items (range_value shape before) (range_value shape after))

-- the same behind the key of the changed document, as a squashed feed queues it
abbrev pub keyed_step : Shows → Shape → Plain → List Document → List Document → List Keyed
keyed_step s shape k before after = map (λ d. (k, d)) (range_step s shape k before after)

abbrev pub limit_step : Shows → ℕ → Selection → Plain → List Document → List Document → List Difference
limit_step s n ordered k before after = map (hear s) (limit_items (limit_value n ordered before) (limit_value n ordered after))

-- each change moves one element of the limit's list at most
abbrev pub AllOneMove : ℕ → Selection → List Document → List Change → Type 0
AllOneMove n ordered docs [] = Unit {0}
AllOneMove n ordered docs (c ∷ cs) = IsOneMove (limit_value n ordered docs) (limit_value n ordered (changed c.0 c.1 docs)) × AllOneMove n ordered (changed c.0 c.1 docs) cs
