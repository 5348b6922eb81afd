-- What a request is read to follow, as code holds it.
use Rattle.std.specs.Prelude.{◌≡◌, [], ◌∷◌, Option, Some, None}
use Rattle.reql_datum.specs.Members.{find}
use Rattle.reql_datum.specs.View.{plain}
use Rattle.reql_term.specs.Views.{index_of}
use Rattle.reql_term.specs.declared.view.IndexDef.{IndexDef}
use Rattle.reql_value_spec.specs.Index.{plain_view}
use Rattle.reql_value_spec.specs.Shapes.{rows_over}
use Rattle.reql_value_spec.specs.World.{bare_world}
use Rattle.reql_table.specs.Seen.{Standing, indexes_of}
use Rattle.reql_feed_spec.specs.Feeds.{Watch, one_key, all_given, first_of, nothing}
use Rattle.reql_feed_spec.specs.Kept.{watch_of}
use Rattle.reql_feed_spec.specs.Value.{Shape}
use Rattle.reql_feed_spec.specs.declared.kind.FeedKind.{FeedKind}
use Rattle.reql_feed_spec.specs.declared.kind.FeedKind.TheVariants as kinds
use Rattle.reql_table_spec.specs.Followed.{followed}
use Rattle.reql_table_spec.specs.Indexes.{Indexes}
use Rattle.reql_table_spec.specs.Table.{Held}
use Rattle.reql_table_spec.specs.declared.command.FeedSpec.{FeedSpec}
use Rattle.reql_feed_read.specs.Order as the
use Rattle.reql_feed_read.specs.Seen.{order_of}
use Rattle.reql_feed_read.specs.declared.follows.Follows.{Follows}
use Rattle.reql_feed_read.specs.declared.follows.Follows.TheVariants as follows
use Rattle.reql_feed_read.specs.declared.order.Order.{Order}
use Rattle.reql_feed_read.specs.declared.shape.RangeShape.{RangeShape}

-- the index that is kept, by its name
abbrev pub indexes_in : Option IndexDef → Indexes
indexes_in None = []
indexes_in (Some d) = (d.name, index_of d) ∷ []

abbrev pub held_of : FeedSpec → Option IndexDef → Held
held_of spec index = record { spec = spec; indexes = indexes_in index }

-- an index that is kept is one of a table, by its name
abbrev pub IsThere : Option IndexDef → Standing → Type 0
IsThere None t = Unit {0}
IsThere (Some def) t = find def.name (indexes_of t) ≡ Some (index_of def)

-- what the term of a range feed gives of a table of these documents
abbrev pub shape_of : RangeShape → Shape
shape_of s = rows_over bare_world s.slot (plain_view [] 0 [] s.key [] (indexes_of s.empty)) s.term

-- what is followed by the definition
abbrev pub watched : Held → Watch
watched h = watch_of (followed h.spec h.indexes)

-- what an order shows
abbrev pub order_watched : Order → Watch
order_watched o = first_of o.most (the.selection_of (order_of o))

-- an order is by the kept index or by none
abbrev pub IsKept : Option IndexDef → Option IndexDef → Type 0
IsKept None index = Unit {0}
IsKept (Some def) index = index ≡ Some def

-- an order that shows this, by the kept index, which is no multi index
pub record IsOrder (o : Order) (index : Option IndexDef) (asked : FeedKind) (w : Watch) : Type 0 where
  pub shows : w ≡ order_watched o
  pub kind : asked ≡ kinds.Limit o.most
  pub single : the.IsSingle (order_of o).index
  pub kept : IsKept o.index index

-- what is read where an order is asked for
abbrev pub OrderReads : Follows → Option IndexDef → FeedKind → Watch → Type 0
OrderReads (follows.Key key) index kind w = ⊥
OrderReads (follows.Shape s) index kind w = ⊥
OrderReads (follows.First o) index kind w = IsOrder o index kind w
OrderReads follows.Nothing index kind w = w ≡ nothing kind

-- what is followed is what a request follows that is kept with an index
abbrev pub Reads : Follows → FeedSpec → Option IndexDef → Type 0
Reads (follows.Key key) spec index = (watched (held_of spec index) ≡ one_key (plain key)) × (spec.kind ≡ kinds.Point)
Reads (follows.Shape s) spec index = (watched (held_of spec index) ≡ all_given (shape_of s)) × (spec.kind ≡ kinds.Range)
Reads (follows.First o) spec index = IsOrder o index spec.kind (watched (held_of spec index))
Reads follows.Nothing spec index = watched (held_of spec index) ≡ nothing spec.kind
