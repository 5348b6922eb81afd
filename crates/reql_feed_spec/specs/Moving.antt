-- A change of one document moves at most one element of the first n of an ordered selection.
use Rattle.std.specs.Prelude.{◌≡◌, ℕ, List, Option, Some, None, Bool, false, filter}
use Rattle.std.specs.List.{AllByRecursion}
use Rattle.reql_datum.specs.Order.{order}
use Rattle.reql_datum.specs.Plain.{Plain}
use Rattle.reql_memory.specs.Sorted.{AreRisingBy}
use Rattle.reql_rules.specs.Types.{is_null}
use Rattle.reql_term.specs.Views.{Document, Entry, Index, primary, directed}
use Rattle.reql_feed_spec.specs.Value.{Change, Selection, changed, selected, limit_value}
use Rattle.reql_feed_spec.specs.Moves.{IsOneMove}

-- no document is null
abbrev pub AreNoNulls : List Document → Type 0
AreNoNulls docs = AllByRecursion (λ m. is_null m.1 ≡ false) docs

abbrev pub IsNoNull : Option Plain → Type 0
IsNoNull None = Unit {0}
IsNoNull (Some doc) = is_null doc ≡ false

abbrev pub BringNoNulls : List Change → Type 0
BringNoNulls cs = AllByRecursion (λ (c : Change). IsNoNull c.1) cs

-- the documents between bounds in the primary order, or in the reverse
abbrev pub selected_by_key : (Entry → Bool) → Bool → Selection
selected_by_key within down docs = directed down (filter within (primary docs))

abbrev pub MovesOne : Selection → Type 0
MovesOne ordered = (n : ℕ) (docs : List Document) (c : Change) → AreRisingBy order docs → AreNoNulls docs → IsNoNull c.1
    → IsOneMove (limit_value n ordered docs) (limit_value n ordered (changed c.0 c.1 docs))

-- in the order of an index that is no multi index, and in the primary order
abbrev pub IndexesMoveOne : Type 0
IndexesMoveOne = (i : Index) (within : Entry → Bool) (down : Bool) → i.1 ≡ false → MovesOne (selected i within down)

abbrev pub KeysMoveOne : Type 0
KeysMoveOne = (within : Entry → Bool) (down : Bool) → MovesOne (selected_by_key within down)
