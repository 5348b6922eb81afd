-- What a limit feed follows: the first so many documents in the order of an index that is no multi index, or of primary keys, between bounds.
use Rattle.std.specs.Prelude.{◌≡◌, ℕ, Bool, false, Option, Some, None}
use Rattle.reql_term.specs.Views.{Entry, Index}
use Rattle.reql_feed_spec.specs.Kept.{Kept, by_index, by_primary}
use Rattle.reql_feed_spec.specs.Moving.{selected_by_key}
use Rattle.reql_feed_spec.specs.Value.{Selection, selected}
use Rattle.reql_feed_spec.specs.Watched.{Part, lies_in}

-- the index (none: the primary order), the part of it, whether it goes down, and how many
pub record Order : Type 0 where
  pub index : Option Index
  pub part : Part
  pub down : Bool
  pub most : ℕ

abbrev pub IsSingle : Option Index → Type 0
IsSingle None = Unit {0}
IsSingle (Some i) = i.1 ≡ false

-- as a feed keeps it
abbrev pub kept_by : Option Index → Part → Bool → ℕ → Kept
kept_by None part down most = by_primary part down most
kept_by (Some i) part down most = by_index i part down most

abbrev pub kept_of : Order → Kept
kept_of o = kept_by o.index o.part o.down o.most

-- its selection of a table
abbrev pub selected_in : Option Index → (Entry → Bool) → Bool → Selection
selected_in None within down = selected_by_key within down
selected_in (Some i) within down = selected i within down

abbrev pub selection_of : Order → Selection
selection_of o = selected_in o.index (lies_in o.part) o.down
