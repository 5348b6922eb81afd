-- What the term of a feed shows of a table is the value of the feed: GET, a range shape, and LIMIT over ORDER_BY by an index.
use Rattle.std.specs.Prelude.{◌≡◌, ℕ, pos, List, [], Some, Ok, Bool, true, false, ◌&&◌, codes}
use Rattle.reql_datum.specs.Keys.{is_key}
use Rattle.reql_datum.specs.Members.{find}
use Rattle.reql_datum.specs.Order.{order}
use Rattle.reql_datum.specs.Plain.{Plain, number, text}
use Rattle.reql_memory.specs.Sorted.{AreRisingBy, find_by}
use Rattle.reql_rules.specs.Lists.{Bytes}
use Rattle.reql_rules.specs.Types.{same_text, is_null}
use Rattle.reql_term.specs.Form.{Form, literal, slot, operation, no_forms, form, no_named, named}
use Rattle.reql_term.specs.Views.{Document, Entry, Index, is_above, is_below, documents_in}
use Rattle.reql_term.specs.declared.op.Op.TheVariants as op
use Rattle.reql_value_spec.specs.Meaning as meaning
use Rattle.reql_value_spec.specs.Meant as meant
use Rattle.reql_value_spec.specs.Shapes.{IsShape, over, rows_over}
use Rattle.reql_value_spec.specs.World.{World, View}
use Rattle.reql_feed_spec.specs.Value.{Change, selected, limit_value}
use Rattle.reql_feed_spec.specs.Moving.{AreNoNulls, BringNoNulls, selected_by_key}
use Rattle.reql_feed_spec.specs.Feeds.{all_given, first_of}
use Rattle.reql_feed_spec.specs.Folds.{AllFollow}

-- GET of a key on a table
abbrev pub get_term : ℕ → Plain → Form
get_term n key = operation op.Get (form (slot n) (form (literal key) no_forms)) no_named

-- a table, or the documents between two bounds of an index
pub data Part : Type 0 where
  whole : Part
  between : Plain → Bool → Plain → Bool → Part

abbrev pub lies_in : Part → Entry → Bool
lies_in whole e = true
lies_in (between bottom bottom_open top top_open) e = is_above bottom_open bottom e.0 && is_below top_open top e.0

abbrev pub AreBounds : Part → Type 0
AreBounds whole = Unit {0}
AreBounds (between bottom bottom_open top top_open) = (is_null bottom ≡ false) × (is_null top ≡ false)

abbrev pub bound_name : Bool → Form
bound_name true = literal (text (codes "open"))
bound_name false = literal (text (codes "closed"))

abbrev pub part_term : ℕ → Bytes → Part → Form
part_term n name whole = slot n
part_term n name (between bottom bottom_open top top_open) =
    operation op.Between (form (slot n) (form (literal bottom) (form (literal top) no_forms)))
    (named (codes "index") (literal (text name)) (named (codes "left_bound") (bound_name bottom_open) (named (codes "right_bound") (bound_name top_open) no_named)))

-- the name of an index, or DESC of it
abbrev pub index_term : Bool → Bytes → Form
index_term true name = operation op.Desc (form (literal (text name)) no_forms) no_named
index_term false name = literal (text name)

abbrev pub ordered_term : ℕ → Bytes → Part → Bool → Form
ordered_term n name part down = operation op.OrderBy (form (part_term n name part) no_forms) (named (codes "index") (index_term down name) no_named)

abbrev pub first_term : ℕ → Bytes → Part → Bool → ℕ → Form
first_term n name part down count = operation op.Limit (form (ordered_term n name part down) (form (literal (number (pos count))) no_forms)) no_named

-- a point feed shows the row of GET
abbrev pub PointsAreGets : Type 0
PointsAreGets = (base : World) (n : ℕ) (t : View) (key : Plain) (docs : List Document) → is_key key ≡ true
    → meaning.value (get_term n key) (over base n t docs) [] ≡ Ok (meant.row n key (find_by order key docs))

-- a range feed may follow every shape along any changes
abbrev pub RangesFollowShapes : Type 0
RangesFollowShapes = (base : World) (n : ℕ) (t : View) (f : Form) → IsShape n f → (docs : List Document) (cs : List Change) → AllFollow (all_given (rows_over base n t f)) docs cs

-- and a limit feed the first n by an index that is no multi index, or by primary key, where no document is null
abbrev pub LimitsFollowIndexes : Type 0
LimitsFollowIndexes = (i : Index) (within : Entry → Bool) (down : Bool) → i.1 ≡ false → (n : ℕ) (docs : List Document) (cs : List Change)
    → AreRisingBy order docs → AreNoNulls docs → BringNoNulls cs → AllFollow (first_of n (selected i within down)) docs cs

abbrev pub LimitsFollowKeys : Type 0
LimitsFollowKeys = (within : Entry → Bool) (down : Bool) (n : ℕ) (docs : List Document) (cs : List Change)
    → AreRisingBy order docs → AreNoNulls docs → BringNoNulls cs → AllFollow (first_of n (selected_by_key within down)) docs cs

-- a limit feed shows the first documents between the bounds, by an index or by primary key
abbrev pub LimitsAreFirstByIndex : Type 0
LimitsAreFirstByIndex = (base : World) (n : ℕ) (t : View) (name : Bytes) (i : Index) (part : Part) (down : Bool) (count : ℕ) (docs : List Document)
    → same_text name t.key ≡ false → find name t.indexes ≡ Some i → AreBounds part
    → rows_over base n t (first_term n name part down count) docs ≡ Ok (documents_in (limit_value count (selected i (lies_in part) down) docs))

abbrev pub LimitsAreFirstByKey : Type 0
LimitsAreFirstByKey = (base : World) (n : ℕ) (t : View) (name : Bytes) (part : Part) (down : Bool) (count : ℕ) (docs : List Document)
    → same_text name t.key ≡ true → AreBounds part
    → rows_over base n t (first_term n name part down count) docs ≡ Ok (documents_in (limit_value count (selected_by_key (lies_in part) down) docs))
