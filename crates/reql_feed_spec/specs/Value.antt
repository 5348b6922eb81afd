-- The value of a feed: what it shows of a table at one moment (changefeed documentation).
use Rattle.std.specs.Prelude.{ℕ, List, [], ◌∷◌, Option, Some, None, Ok, Err, Bool, false, cond, filter, take}
use Rattle.reql_datum.specs.Answer.{Answer}
use Rattle.reql_datum.specs.Kinds.{are_storable}
use Rattle.reql_datum.specs.Order.{order}
use Rattle.reql_datum.specs.Plain.{Plain, items_of}
use Rattle.reql_memory.specs.Sorted.{find_by, put_by, without_by}
use Rattle.reql_term.specs.Views.{Document, Entry, Index, directed}
use Rattle.reql_bag.specs.Bag.{in_order}
use Rattle.reql_value_spec.specs.Index.{index_list}
use Rattle.reql_value_spec.specs.Shapes.{answered}
use Rattle.reql_feed_spec.specs.Shown.{or_null}

-- a change of one document: its key, and what stands there after it
abbrev pub Change : Type 0
Change = Plain × Option Plain

-- the documents of a table after a change of the one at a key
abbrev pub changed : Plain → Option Plain → List Document → List Document
changed key None docs = without_by order key docs
changed key (Some doc) docs = put_by order key doc docs

-- point: the document or null
abbrev pub point_value : Plain → List Document → Plain
point_value key docs = or_null (find_by order key docs)

-- without a fault, and with nothing that may not be shown
abbrev pub is_showable : Answer (List Plain) → Bool
is_showable (Ok vs) = are_storable (items_of vs)
is_showable (Err e) = false

-- range: a shape is known by its value over each table
abbrev pub Shape : Type 0
Shape = List Document → Answer (List Plain)

module _ (shape : Shape) where
  -- a document is good where the shape over the table of it alone has no fault and can be shown
  abbrev pub is_good : Document → Bool
  is_good m = is_showable (shape (m ∷ []))

  -- the sorted list of the shape's value over the good documents
  abbrev pub range_value : List Document → List Plain
  range_value docs = in_order (answered (shape (filter is_good docs)))

  -- what the shape gives of one document by itself, where that can be shown
  abbrev pub shown_alone : Document → List Plain
  shown_alone m = cond (is_good m) (answered (shape (m ∷ []))) []

  -- what one document adds
  abbrev pub contribution : Document → List Plain
  contribution m = in_order (shown_alone m)

  abbrev pub contribution_at : Plain → Option Plain → List Plain
  contribution_at key None = []
  contribution_at key (Some doc) = contribution (key, doc)

-- limit: an ordered selection is known by its list over each table
abbrev pub Selection : Type 0
Selection = List Document → List Entry

-- the entries of an index that lie between bounds, in order or in the reverse
abbrev pub selected : Index → (Entry → Bool) → Bool → Selection
selected i within down docs = directed down (filter within (index_list docs i))

-- the first n of it, each with its index value and its key
abbrev pub limit_value : ℕ → Selection → List Document → List Entry
limit_value n ordered docs = take n (ordered docs)
