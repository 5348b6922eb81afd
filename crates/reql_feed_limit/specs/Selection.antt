-- The same in pairs: the first so many documents in the order of a list of pairs, between bounds.
use Rattle.std.specs.Prelude.{ℕ, Bool, true, false, List, [], ◌∷◌, Option, Some, None, take, reverse}
use Rattle.std.specs.List.{filter}
use Rattle.std.specs.Ordering.{flip_args}
use Rattle.std.specs.declared.cmp.Ordering.{Ordering}
use Rattle.reql_datum.specs.Plain.{Plain}
use Rattle.reql_datum.specs.Order.{order}
use Rattle.reql_memory.specs.Sorted.{put_by, without_by}
use Rattle.reql_write_spec.specs.Treated.{Changed as Change}

-- a document as it stands in an index: its pair, and the document
abbrev pub Element : Type 0
Element = Plain × Plain

-- by primary key and document, the pair under which it stands in the index; None where it has no entry
abbrev pub Spot : Type 0
Spot = Plain → Plain → Option Plain

-- what is set at a key: a value, or nothing
abbrev pub set_by : {K V : Type 0} → (K → K → Ordering) → K → Option V → List (K × V) → List (K × V)
set_by cmp k None ms = without_by cmp k ms
set_by cmp k (Some v) ms = put_by cmp k v ms

-- the documents of a table after one change
abbrev pub changed : Change → List (Plain × Plain) → List (Plain × Plain)
changed c docs = set_by order c.key c.new docs

abbrev pub entered : Option Plain → Plain → List Element → List Element
entered None doc es = es
entered (Some pair) doc es = put_by order pair doc es

-- the index list of a table: all documents that have a pair, rising by pair
abbrev pub index_list : Spot → List (Plain × Plain) → List Element
index_list spot [] = []
index_list spot (m ∷ ms) = entered (spot m.0 m.1) m.1 (index_list spot ms)

-- the order in which a feed goes, and a list turned that way
abbrev pub facing : Bool → Plain → Plain → Ordering
facing false = order
facing true = flip_args order

abbrev pub turned : {X : Type 0} → Bool → List X → List X
turned false es = es
turned true es = reverse es

-- what a limit feed asks for: the index, which pairs lie between the bounds, the direction, how many documents
pub record Limit : Type 0 where
  pub spot : Spot
  pub within : Plain → Bool
  pub descending : Bool
  pub size : ℕ

-- the ordered selection of a list of pairs, and of a table
abbrev pub picked : Limit → List Element → List Element
picked l es = turned l.descending (filter (λ e. l.within e.0) es)

abbrev pub selection : Limit → List (Plain × Plain) → List Element
selection l docs = picked l (index_list l.spot docs)

-- the value of the feed: the first elements of the selection
abbrev pub value : Limit → List (Plain × Plain) → List Element
value l docs = take l.size (selection l docs)
