-- That requests as they are planned are read for what they mean: GET of a key, a range shape, and the first of an order by an index or by
-- primary key. What such terms give over a table is the value of the feed, by the laws of feeds.
use Rattle.std.specs.Prelude.{◌≡◌, ℕ, Option, Some, None, Bool, true, false, Ok}
use Rattle.reql_datum.specs.Keys.{is_key}
use Rattle.reql_datum.specs.Members.{find}
use Rattle.reql_datum.specs.Plain.{Plain}
use Rattle.reql_rules.specs.Lists.{Bytes}
use Rattle.reql_rules.specs.Types.{same_text}
use Rattle.reql_term.specs.Form.{Form}
use Rattle.reql_term.specs.Views.{Index}
use Rattle.reql_write_spec.specs.Selecting.{slots}
use Rattle.reql_feed_spec.specs.Kept.{by_key, by_shape, by_index, by_primary, is_shape}
use Rattle.reql_feed_spec.specs.Watched.{Part, AreBounds, get_term, first_term}
use Rattle.reql_feed_spec.specs.declared.kind.FeedKind.{FeedKind}
use Rattle.reql_feed_spec.specs.declared.kind.FeedKind.TheVariants as kinds
use Rattle.reql_table_spec.specs.Followed.{followed, shape_index, first_slot}
use Rattle.reql_table_spec.specs.Indexes.{Indexes}
use Rattle.reql_table_spec.specs.declared.command.FeedSpec.{FeedSpec}

-- a request of this kind, over this term and this index
abbrev pub asked : FeedSpec → FeedKind → Form → Option Bytes → FeedSpec
asked s kind shape index = record s { kind = kind; shape = shape; index = index }

-- rules out a point feed that follows another key, or none
abbrev pub PointsAreRead : Type 0
PointsAreRead = (s : FeedSpec) (indexes : Indexes) (n : ℕ) (key : Plain) → is_key key ≡ true → followed (asked s kinds.Point (get_term n key) None) indexes ≡ by_key key

-- rules out a range feed that follows another term, or another slot than the one in it
abbrev pub RangesAreRead : Type 0
RangesAreRead = (s : FeedSpec) (indexes : Indexes) (n : ℕ) (f : Form) → is_shape n f ≡ true → shape_index f ≡ Ok None
    → followed (asked s kinds.Range f None) indexes ≡ by_shape s.key indexes n f

abbrev pub NamedRangesAreRead : Type 0
NamedRangesAreRead = (s : FeedSpec) (indexes : Indexes) (n : ℕ) (f : Form) (name : Bytes) → is_shape n f ≡ true → shape_index f ≡ Ok (Some name)
    → followed (asked s kinds.Range f (Some name)) indexes ≡ by_shape s.key indexes n f

-- rules out a limit feed with other bounds, another direction, another number or another index
abbrev pub LimitsAreRead : Type 0
LimitsAreRead = (s : FeedSpec) (indexes : Indexes) (n : ℕ) (name : Bytes) (i : Index) (part : Part) (down : Bool) (count : ℕ)
    → same_text name s.key ≡ false → find name indexes ≡ Some i → AreBounds part
    → followed (asked s (kinds.Limit count) (first_term n name part down count) (Some name)) indexes ≡ by_index i part down count

abbrev pub LimitsByKeyAreRead : Type 0
LimitsByKeyAreRead = (s : FeedSpec) (indexes : Indexes) (n : ℕ) (name : Bytes) (part : Part) (down : Bool) (count : ℕ)
    → same_text name s.key ≡ true → AreBounds part
    → followed (asked s (kinds.Limit count) (first_term n name part down count) (Some name)) indexes ≡ by_primary part down count
