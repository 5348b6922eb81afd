-- Worked rows of feeds: their values, opening items, items, folds and nets on small tables.
use Rattle.std.specs.Prelude.{◌≡◌, ℕ, [], ◌∷◌, Some, None, Bool, true, false, codes}
use Rattle.reql_datum.specs.Plain.{Plain, null}
use Rattle.reql_rules.specs.Lists.{object_of, array_of}
use Rattle.reql_term.specs.Form.{Form, slot}
use Rattle.reql_term.specs.Views.{Document, Entry, Index}
use Rattle.reql_term.specs.declared.op.Op.TheVariants as op
use Rattle.reql_value_spec.specs.Index.{plain_view}
use Rattle.reql_value_spec.specs.Shapes.{rows_over}
use Rattle.reql_value_spec.specs.Short.{n, t, call, fun, field}
use Rattle.reql_value_spec.specs.World.{bare_world}
use Rattle.reql_feed_spec.specs.Shown.{Shows, state_item, skip_item}
use Rattle.reql_feed_spec.specs.Value.{Shape, selected}
use Rattle.reql_feed_spec.specs.Feeds.{Feed, one_key, all_given, first_of, queued, opening_items, appended, net, value, fold}
use Rattle.reql_feed_spec.specs.declared.kind.FeedKind.TheVariants as kinds

-- a document {"id":i,"n":k}, alone and behind its key
abbrev pub doc : ℕ → ℕ → Plain
doc i k = object_of ((codes "id", n i) ∷ (codes "n", n k) ∷ [])

abbrev pub row : ℕ → ℕ → Document
row i k = (n i, doc i k)

-- items without offsets, and with them
abbrev pub item : Plain → Plain → Plain
item new old = object_of ((codes "new_val", new) ∷ (codes "old_val", old) ∷ [])

abbrev pub placed : Plain → Plain → Plain → Plain → Plain
placed new_at new old_at old = object_of ((codes "new_offset", new_at) ∷ (codes "new_val", new) ∷ (codes "old_offset", old_at) ∷ (codes "old_val", old) ∷ [])

abbrev pub first_at : ℕ → Plain → Plain
first_at k new = object_of ((codes "new_offset", n k) ∷ (codes "new_val", new) ∷ [])

abbrev pub bare_items : Shows
bare_items = record { offsets = false; types = false }

abbrev pub with_places : Shows
with_places = record { offsets = true; types = false }

abbrev pub with_types : Shows
with_types = record { offsets = false; types = true }

-- a feed on the whole table, one on MAP of each document to its field n, one on the document at key 1, and limit feeds by n
abbrev pub shape_of : Form → Shape
shape_of f = rows_over bare_world 0 (plain_view [] 0 [] (codes "id") [] []) f

abbrev pub whole : Bool → Feed
whole squash = record { watch = all_given (shape_of (slot 0)); shows = bare_items; squash = squash }

abbrev pub mapped : Feed
mapped = record { watch = all_given (shape_of (call op.Map (slot 0 ∷ fun (field "n") ∷ []))); shows = with_types; squash = false }

abbrev pub point : Feed
point = record { watch = one_key (n 1); shows = bare_items; squash = true }

abbrev pub by_n : Index
by_n = (fun (field "n"), false)

abbrev pub all_entries : Entry → Bool
all_entries e = true

abbrev pub first : ℕ → Bool → Shows → Feed
first count down shows = record { watch = first_of count (selected by_n all_entries down); shows = shows; squash = false }

-- the first two of three that tie: by primary key, with places, and the third comes where the first leaves
abbrev pub LimitsByIndex : Type 0
LimitsByIndex =
    (opening_items (first 2 false with_places).watch with_places (row 1 7 ∷ row 2 7 ∷ row 3 7 ∷ []) ≡ first_at 0 (doc 1 7) ∷ first_at 1 (doc 2 7) ∷ [])
    × (queued (first 2 false with_places) (row 1 7 ∷ row 2 7 ∷ row 3 7 ∷ []) (n 1, None) ≡ placed (n 1) (doc 3 7) (n 0) (doc 1 7) ∷ [])
    × (queued (first 3 false with_places) (row 1 5 ∷ row 2 6 ∷ []) (n 3, Some (doc 3 9)) ≡ placed (n 2) (doc 3 9) null null ∷ [])
    × (queued (first 3 false with_places) (row 1 1 ∷ row 2 2 ∷ row 3 3 ∷ []) (n 1, Some (doc 1 9)) ≡ placed (n 2) (doc 1 9) (n 0) (doc 1 1) ∷ [])
    × (queued (first 0 false with_places) (row 1 1 ∷ row 2 2 ∷ row 3 3 ∷ []) (n 1, Some (doc 1 9)) ≡ [])
    × (queued (first 2 false with_places) (row 1 1 ∷ row 2 2 ∷ row 3 3 ∷ []) (n 1, None) ≡ placed (n 1) (doc 3 3) (n 0) (doc 1 1) ∷ [])
    × (queued (first 2 true with_places) (row 1 1 ∷ row 2 2 ∷ row 3 3 ∷ []) (n 3, None) ≡ placed (n 1) (doc 1 1) (n 0) (doc 3 3) ∷ [])
    × (queued (first 2 false with_places) (row 1 1 ∷ row 2 2 ∷ row 3 3 ∷ []) (n 3, Some (doc 3 4)) ≡ [])
    × (fold (first 2 false with_places) (doc 1 1 ∷ doc 2 2 ∷ []) (placed (n 1) (doc 3 3) (n 0) (doc 1 1) ∷ []) ≡ doc 2 2 ∷ doc 3 3 ∷ [])

-- a point feed opens with null, and says what is in its state
abbrev pub PointsByKey : Type 0
PointsByKey =
    (opening_items point.watch bare_items [] ≡ object_of ((codes "new_val", null) ∷ []) ∷ [])
    × (state_item bare_items (codes "initializing") ≡ object_of ((codes "state", t "initializing") ∷ []))
    × (state_item with_types (codes "ready") ≡ object_of ((codes "state", t "ready") ∷ (codes "type", t "state") ∷ []))
    × (queued point [] (n 1, Some (doc 1 5)) ≡ item (doc 1 5) null ∷ [])
    × (queued point [] (n 2, Some (doc 2 5)) ≡ [])
    × (queued point (row 1 5 ∷ []) (n 1, Some (doc 1 5)) ≡ [])
    × (fold point (null ∷ []) (item (doc 1 5) null ∷ item (doc 1 6) (doc 1 5) ∷ []) ≡ doc 1 6 ∷ [])
    × (net kinds.Point false ((1, item (doc 1 5) null) ∷ (2, item (doc 1 6) (doc 1 5)) ∷ []) ≡ (2, item (doc 1 6) null) ∷ [])
    × (net kinds.Point false ((1, item (doc 1 5) null) ∷ (2, item null (doc 1 5)) ∷ []) ≡ [])

-- three documents are told one after the other; a null that came prints like absence, and is no part of the fold's value
abbrev pub RangesAsBags : Type 0
RangesAsBags =
    (appended (whole false) [] 0 ((n 1, Some (doc 1 1)) ∷ (n 2, Some (doc 2 2)) ∷ (n 3, Some (doc 3 3)) ∷ []) ≡ (1, item (doc 1 1) null) ∷ (2, item (doc 2 2) null) ∷ (3, item (doc 3 3) null) ∷ [])
    × (queued mapped [] (n 1, Some (doc 1 4)) ≡ object_of ((codes "new_val", n 4) ∷ (codes "old_val", null) ∷ (codes "type", t "add") ∷ []) ∷ [])
    × (queued mapped (row 1 4 ∷ row 2 4 ∷ []) (n 1, Some (doc 1 5)) ≡ object_of ((codes "new_val", n 5) ∷ (codes "old_val", n 4) ∷ (codes "type", t "change") ∷ []) ∷ [])
    × (queued mapped (row 1 4 ∷ row 2 4 ∷ []) (n 2, None) ≡ object_of ((codes "new_val", null) ∷ (codes "old_val", n 4) ∷ (codes "type", t "remove") ∷ []) ∷ [])
    × (queued mapped [] (n 1, Some (object_of ((codes "id", n 1) ∷ (codes "n", null) ∷ []))) ≡ object_of ((codes "new_val", null) ∷ (codes "old_val", null) ∷ (codes "type", t "add") ∷ []) ∷ [])
    × (value mapped ((n 1, object_of ((codes "id", n 1) ∷ (codes "n", null) ∷ [])) ∷ row 2 4 ∷ []) ≡ n 4 ∷ [])
    × (value mapped ((n 1, object_of ((codes "id", n 1) ∷ [])) ∷ row 2 4 ∷ []) ≡ n 4 ∷ [])
    × (queued mapped [] (n 1, Some (object_of ((codes "id", n 1) ∷ []))) ≡ [])
    × (opening_items (whole false).watch bare_items (row 1 1 ∷ []) ≡ object_of ((codes "new_val", doc 1 1) ∷ []) ∷ [])
    × (fold (whole false) (doc 1 1 ∷ doc 2 2 ∷ []) (item null (doc 1 1) ∷ []) ≡ doc 2 2 ∷ [])

-- a new document and its update join to one item, a document that went and came again as it was to none, and no item joins two documents
abbrev pub Joined : Type 0
Joined =
    (appended (whole true) [] 0 ((n 1, Some (doc 1 1)) ∷ []) ≡ (1, array_of (n 1 ∷ item (doc 1 1) null ∷ [])) ∷ [])
    × (net kinds.Range false (appended (whole true) [] 0 ((n 1, Some (doc 1 1)) ∷ (n 1, Some (doc 1 2)) ∷ [])) ≡ (2, item (doc 1 2) null) ∷ [])
    × (net kinds.Range false (appended (whole true) (row 1 2 ∷ []) 2 ((n 1, None) ∷ (n 1, Some (doc 1 2)) ∷ [])) ≡ [])
    × (net kinds.Range true (appended (whole true) (row 1 1 ∷ row 2 2 ∷ []) 4 ((n 2, Some (doc 2 3)) ∷ (n 1, None) ∷ []))
    ≡ (6, object_of ((codes "new_val", null) ∷ (codes "old_val", doc 1 1) ∷ (codes "type", t "remove") ∷ [])) ∷ (6, object_of ((codes "new_val", doc 2 3) ∷ (codes "old_val", doc 2 2) ∷ (codes "type", t "change") ∷ [])) ∷ [])
    × (net (kinds.Limit 2) false (appended (first 2 false bare_items) (row 1 1 ∷ row 2 2 ∷ row 3 3 ∷ []) 3 ((n 1, None) ∷ (n 1, Some (doc 1 0)) ∷ [])) ≡ (5, item (doc 1 0) (doc 1 1)) ∷ [])

abbrev pub Skipped : Type 0
Skipped = skip_item 1 ≡ object_of ((codes "error", t "Changefeed cache over array size limit, skipped 1 elements.") ∷ [])
