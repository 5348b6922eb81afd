-- What a limit feed follows: the first so many documents in the order of an index that is no multi index, or of primary keys, between bounds.
use Rattle.std.specs.Prelude.{List, [], ◌∷◌, map, Bool, true, false, Option, Some, None, is_some}
use Rattle.reql_datum.specs.Plain.{Plain, low, high}
use Rattle.reql_rules.specs.Lists.{array_of}
use Rattle.reql_term.specs.Views.{Document, Entry, Index, primary}
use Rattle.reql_value_spec.specs.Index.{entries, index_list}
use Rattle.reql_feed_spec.specs.Value.{limit_value}
use Rattle.reql_feed_spec.specs.Watched.{Part, whole, between}
pub use Rattle.reql_feed_read.specs.Order.{Order, IsSingle, kept_by, kept_of, selected_in, selection_of}
use Rattle.reql_table.specs.Keys.{pair_of, entry_in, low_end, high_end}
use Rattle.reql_feed_limit.specs.Bounds.{Bounds}
use Rattle.reql_feed_limit.specs.Selection.{Spot}

-- what it shows of a table
abbrev pub first_in : Order → List Document → List Entry
first_in o docs = limit_value o.most (selection_of o) docs

-- ---- entries as they lie in a tree: of an index, or of the primary order
abbrev pub as_pair : Bool → Entry → Plain × Plain
as_pair true e = pair_of e
as_pair false e = e.1

abbrev pub pairs_in : Bool → List Entry → List (Plain × Plain)
pairs_in filed = map (as_pair filed)

abbrev pub entries_in : Bool → List (Plain × Plain) → List Entry
entries_in filed = map (entry_in filed)

-- all entries of an order
abbrev pub listed_in : Option Index → List Document → List Entry
listed_in None docs = primary docs
listed_in (Some i) docs = index_list docs i

-- where the part begins and ends among the pairs
abbrev pub bounds_at : Bool → Part → Bounds
bounds_at filed whole = record { bottom = low; bottom_open = false; top = high; top_open = false }
bounds_at false (between l lo h ho) = record { bottom = l; bottom_open = lo; top = h; top_open = ho }
bounds_at true (between l lo h ho) = record { bottom = low_end lo l; bottom_open = false; top = high_end ho h; top_open = false }

abbrev pub bounds_in : Order → Bounds
bounds_in o = bounds_at (is_some o.index) o.part

-- the pair under which a document stands
abbrev pub entry_pair : Plain → List Plain → Option Plain
entry_pair key [] = None
entry_pair key (v ∷ vs) = Some (array_of (v ∷ key ∷ []))

abbrev pub spot_of : Option Index → Spot
spot_of None key doc = Some key
spot_of (Some i) key doc = entry_pair key (entries i doc)
