-- The laws of feeds' values, items and nets.
use Rattle.std.specs.Prelude.{◌≡◌, ℕ, List, Option, map, if◌then◌else◌, true}
use Rattle.std.specs.List.{flat_map}
use Rattle.reql_datum.specs.Order.{order}
use Rattle.reql_datum.specs.Plain.{Plain}
use Rattle.reql_memory.specs.Sorted.{AreRisingBy, find_by}
use Rattle.reql_rules.specs.Types.{same}
use Rattle.reql_term.specs.Views.{Document, Entry, documents_in}
use Rattle.reql_bag.specs.Bag.{IsRising, in_order}
use Rattle.reql_value_spec.specs.Shapes.{IsByDocument}
use Rattle.reql_feed_spec.specs.Items.{Difference, point_items, range_items, limit_items}
use Rattle.reql_feed_spec.specs.Shown.{Shows, shown, read, seen, or_null}
use Rattle.reql_feed_spec.specs.Value.{Change, Shape, Selection, changed, limit_value, point_value, range_value, contribution, contribution_at}
use Rattle.reql_feed_spec.specs.Fold.{point_fold, bag_fold, list_fold, without_nulls}
use Rattle.reql_feed_spec.specs.Net.{Keyed, point_net, bag_net, range_net}
use Rattle.reql_feed_spec.specs.Follows.{PointFollows, BagFollows, PartsFollow}
use Rattle.reql_feed_spec.specs.History.{after_all, along, hear, point_step, range_step, keyed_step, limit_step, AllOneMove}
use Rattle.reql_feed_spec.specs.Moves.{IsOneMove}

-- what a client reads of a printed item is the item, but that null is absence
abbrev pub ItemsReadBack : Type 0
ItemsReadBack = (s : Shows) (d : Difference) → read (shown s d) ≡ seen s.offsets d

-- the items of a change, folded over the value before it, give the value after it
abbrev pub PointItemsFold : Type 0
PointItemsFold = (s : Shows) (v w : Plain) → point_fold v (map (hear s) (point_items v w)) ≡ w

-- a range feed's value is compared without its nulls, since a null prints like absence
abbrev pub RangeItemsFold : Type 0
RangeItemsFold = (s : Shows) (vs ws : List Plain) → IsRising vs → IsRising ws → bag_fold (without_nulls vs) (map (hear s) (range_items vs ws)) ≡ without_nulls ws

-- a limit feed with offsets is folded place by place, without them as a bag
abbrev pub LimitItemsFoldByPlaces : Type 0
LimitItemsFoldByPlaces = (s : Shows) (es fs : List Entry) → s.offsets ≡ true → IsOneMove es fs → list_fold (documents_in es) (map (hear s) (limit_items es fs)) ≡ documents_in fs

abbrev pub LimitItemsFoldAsBags : Type 0
LimitItemsFoldAsBags = (s : Shows) (es fs : List Entry) → IsOneMove es fs → bag_fold (in_order (documents_in es)) (map (hear s) (limit_items es fs)) ≡ in_order (documents_in fs)

-- a range feed's value is the sorted union of what each document adds
abbrev pub RangeValuesJoin : Type 0
RangeValuesJoin = (shape : Shape) (docs : List Document) → IsByDocument shape → range_value shape docs ≡ in_order (flat_map (contribution shape) docs)

-- so the items of a change are those between what the changed document added and what it adds
abbrev pub RangeItemsAreOfTheDocument : Type 0
RangeItemsAreOfTheDocument = (shape : Shape) (docs : List Document) (key : Plain) (old new : Option Plain) → IsByDocument shape → AreRisingBy order docs → find_by order key docs ≡ old
    → range_items (range_value shape docs) (range_value shape (changed key new docs)) ≡ range_items (contribution_at shape key old) (contribution_at shape key new)

-- a change touches a point feed at its own key alone
abbrev pub PointsChangeAlone : Type 0
PointsChangeAlone = (key at : Plain) (new : Option Plain) (docs : List Document) → AreRisingBy order docs → point_value key (changed at new docs) ≡ (if same key at then or_null new else point_value key docs)

-- the net of items folds as they do, where each value that leaves is there
abbrev pub PointNetsFold : Type 0
PointNetsFold = (v : Plain) (ds : List Difference) → PointFollows v ds → point_fold v (point_net ds) ≡ point_fold v ds

abbrev pub BagNetsFold : Type 0
BagNetsFold = (vs : List Plain) (ds : List Difference) → IsRising vs → BagFollows vs ds → bag_fold vs (bag_net ds) ≡ bag_fold vs ds

abbrev pub RangeNetsFold : Type 0
RangeNetsFold = (vs : List Plain) (queued : List Keyed) → IsRising vs → BagFollows vs (map (λ i. i.1) queued) → PartsFollow vs queued → bag_fold vs (range_net queued) ≡ bag_fold vs (map (λ i. i.1) queued)

-- along any changes the items told fold over the value before the first to the value after the last
abbrev pub PointHistoriesFold : Type 0
PointHistoriesFold = (s : Shows) (key : Plain) (docs : List Document) (cs : List Change) → point_fold (point_value key docs) (along (point_step s key) docs cs) ≡ point_value key (after_all docs cs)

abbrev pub RangeHistoriesFold : Type 0
RangeHistoriesFold = (s : Shows) (shape : Shape) (docs : List Document) (cs : List Change) → bag_fold (without_nulls (range_value shape docs)) (along (range_step s shape) docs cs) ≡ without_nulls (range_value shape (after_all docs cs))

-- and so does their net, printed and read again, with no premise on the items
abbrev pub PointNetsHold : Type 0
PointNetsHold = (s : Shows) (key : Plain) (docs : List Document) (cs : List Change) → point_fold (point_value key docs) (map (hear s) (point_net (along (point_step s key) docs cs))) ≡ point_value key (after_all docs cs)

abbrev pub RangeNetsHold : Type 0
RangeNetsHold = (s : Shows) (shape : Shape) (docs : List Document) (cs : List Change) → IsByDocument shape → AreRisingBy order docs
    → bag_fold (without_nulls (range_value shape docs)) (map (hear s) (range_net (along (keyed_step s shape) docs cs))) ≡ without_nulls (range_value shape (after_all docs cs))

-- the same of limit feeds, where each change moves one element at most
abbrev pub LimitHistoriesFoldByPlaces : Type 0
LimitHistoriesFoldByPlaces = (s : Shows) (n : ℕ) (ordered : Selection) (docs : List Document) (cs : List Change) → s.offsets ≡ true → AllOneMove n ordered docs cs
    → list_fold (documents_in (limit_value n ordered docs)) (along (limit_step s n ordered) docs cs) ≡ documents_in (limit_value n ordered (after_all docs cs))

abbrev pub LimitHistoriesFoldAsBags : Type 0
LimitHistoriesFoldAsBags = (s : Shows) (n : ℕ) (ordered : Selection) (docs : List Document) (cs : List Change) → AllOneMove n ordered docs cs
    → bag_fold (in_order (documents_in (limit_value n ordered docs))) (along (limit_step s n ordered) docs cs) ≡ in_order (documents_in (limit_value n ordered (after_all docs cs)))

abbrev pub LimitNetsHold : Type 0
LimitNetsHold = (s : Shows) (n : ℕ) (ordered : Selection) (docs : List Document) (cs : List Change) → AllOneMove n ordered docs cs
    → bag_fold (in_order (documents_in (limit_value n ordered docs))) (map (hear s) (bag_net (along (limit_step s n ordered) docs cs))) ≡ in_order (documents_in (limit_value n ordered (after_all docs cs)))
