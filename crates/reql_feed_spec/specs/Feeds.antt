-- A feed by its kind: what it queues at a change, what a Take of a squashed feed makes of the queue, and how a client folds them.
use Rattle.std.specs.Prelude.{ℕ, suc, List, [], ◌∷◌, ◌++◌, map, Bool, true, false, not, ◌&&◌}
use Rattle.reql_datum.specs.Plain.{Plain, null}
use Rattle.reql_rules.specs.Lists.{array_of}
use Rattle.reql_term.specs.Views.{Document, documents_in}
use Rattle.reql_bag.specs.Bag.{in_order}
use Rattle.reql_feed_spec.specs.Items.{Difference, point_items, range_items, limit_items}
use Rattle.reql_feed_spec.specs.Shown.{Shows, shown, opening, read, or_null}
use Rattle.reql_feed_spec.specs.Value.{Change, Shape, Selection, changed, point_value, range_value, limit_value}
use Rattle.reql_feed_spec.specs.Fold.{bag_fold, list_fold, without_nulls}
use Rattle.reql_feed_spec.specs.Net.{point_net, bag_net, range_net, keyed}
use Rattle.reql_feed_spec.specs.declared.kind.FeedKind.{FeedKind}
use Rattle.reql_feed_spec.specs.declared.kind.FeedKind.TheVariants as kinds

-- what a feed follows: a key, what a shape gives, or the first n of a selection; a term that is none of its kind shows nothing
pub data Watch : Type 0 where
  one_key : Plain → Watch
  all_given : Shape → Watch
  first_of : ℕ → Selection → Watch
  nothing : FeedKind → Watch

abbrev pub kind_of : Watch → FeedKind
kind_of (one_key key) = kinds.Point
kind_of (all_given shape) = kinds.Range
kind_of (first_of n selection) = kinds.Limit n
kind_of (nothing kind) = kind

-- a point feed shows null where it shows nothing
abbrev pub empty_of : FeedKind → List Plain
empty_of kinds.Point = null ∷ []
empty_of kinds.Range = []
empty_of (kinds.Limit n) = []

pub record Feed : Type 0 where
  pub watch : Watch
  pub shows : Shows
  pub squash : Bool

-- with offsets `squash` has no effect
abbrev pub squashes : Feed → Bool
squashes f = f.squash && not f.shows.offsets

-- the differences of one change
abbrev pub differences : Watch → List Document → List Document → List Difference
differences (one_key key) before after = point_items (point_value key before) (point_value key after)
differences (all_given shape) before after = range_items (range_value shape before) (range_value shape after)
differences (first_of n selection) before after = limit_items (limit_value n selection before) (limit_value n selection after)
differences (nothing kind) before after = []

-- the opening items: a point feed has one, also for null, the others one for each element in order
abbrev pub opened_from : Shows → ℕ → List Plain → List Plain
opened_from s k [] = []
opened_from s k (v ∷ vs) = opening s k v ∷ opened_from s (suc k) vs

abbrev pub opening_items : Watch → Shows → List Document → List Plain
opening_items (one_key key) s docs = opening s 0 (point_value key docs) ∷ []
opening_items (all_given shape) s docs = opened_from s 0 (range_value shape docs)
opening_items (first_of n selection) s docs = opened_from s 0 (documents_in (limit_value n selection docs))
opening_items (nothing kind) s docs = opened_from s 0 (empty_of kind)

-- a range feed that squashes queues each item behind the key of the changed document
abbrev pub queued_as : Watch → Bool → Shows → Plain → Difference → Plain
queued_as (all_given shape) true s key d = array_of (key ∷ shown s d ∷ [])
queued_as w squashed s key d = shown s d

abbrev pub queued : Feed → List Document → Change → List Plain
queued f docs c = map (queued_as f.watch (squashes f) f.shows c.0) (differences f.watch docs (changed c.0 c.1 docs))

-- the documents after changes, and what is queued for them, each item with its stamp
abbrev pub changed_by : List Document → List Change → List Document
changed_by docs [] = docs
changed_by docs (c ∷ cs) = changed_by (changed c.0 c.1 docs) cs

abbrev pub appended : Feed → List Document → ℕ → List Change → List (ℕ × Plain)
appended f docs n [] = []
appended f docs n (c ∷ cs) = map (λ i. (suc n, i)) (queued f docs c) ++ appended f (changed c.0 c.1 docs) (suc n) cs

abbrev pub bare : List (ℕ × Plain) → List Plain
bare items = map (λ i. i.1) items

-- the net of what was queued, by kind of feed, each item with the stamp of the last
abbrev pub net_differences : FeedKind → List Plain → List Difference
net_differences kinds.Point items = point_net (map read items)
net_differences kinds.Range items = range_net (map keyed items)
net_differences (kinds.Limit n) items = bag_net (map read items)

abbrev pub last_stamp : List (ℕ × Plain) → ℕ
last_stamp [] = 0
last_stamp (i ∷ []) = i.0
last_stamp (i ∷ j ∷ is) = last_stamp (j ∷ is)

abbrev pub net : FeedKind → Bool → List (ℕ × Plain) → List (ℕ × Plain)
net kind types items = map (λ d. (last_stamp items, shown (record { offsets = false; types = types }) d)) (net_differences kind (bare items))

-- a feed's value as a client's fold sees it: the document or null alone, a bag without its nulls, and a list in its order with offsets, else as a bag
abbrev pub value_at : Watch → Bool → List Document → List Plain
value_at (one_key key) offsets docs = point_value key docs ∷ []
value_at (all_given shape) offsets docs = without_nulls (range_value shape docs)
value_at (first_of n selection) true docs = documents_in (limit_value n selection docs)
value_at (first_of n selection) false docs = in_order (documents_in (limit_value n selection docs))
value_at (nothing kind) offsets docs = empty_of kind

abbrev pub value : Feed → List Document → List Plain
value f docs = value_at f.watch f.shows.offsets docs

-- the client's fold of items as they are printed
abbrev pub folded_at : Watch → Bool → List Plain → Difference → List Plain
folded_at (one_key key) offsets vs d = or_null d.new ∷ []
folded_at (all_given shape) offsets vs d = bag_fold vs (d ∷ [])
folded_at (first_of n selection) true vs d = list_fold vs (d ∷ [])
folded_at (first_of n selection) false vs d = bag_fold vs (d ∷ [])
folded_at (nothing kind) offsets vs d = vs

abbrev pub fold : Feed → List Plain → List Plain → List Plain
fold f vs [] = vs
fold f vs (i ∷ is) = fold f (folded_at f.watch f.shows.offsets vs (read i)) is
