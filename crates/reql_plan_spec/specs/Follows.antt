-- That what CHANGES asks of a table is followed: a feed whose term the machine of tables could not read, or that it read for no term of
-- its kind, would be empty for ever.
use Rattle.std.specs.Prelude.{◌≡◌, [], Bool, true, false, ◌&&◌, not, None, Some, is_some, Ok}
use Rattle.std.specs.List.{AllByRecursion}
use Rattle.reql_term.specs.Form.{Form, several, keyed, function, operation, Forms, no_forms, form, NamedForms, no_named, named}
use Rattle.reql_term.specs.Table.{fits, takes}
use Rattle.reql_term.specs.declared.op.Op.{Op}
use Rattle.reql_faults.specs.Places.{count, option}
use Rattle.reql_faults.specs.Shapes.{part_of, is_table_part, is_range, shape}
use Rattle.reql_faults.specs.declared.shape.Shape.TheVariants as shapes
use Rattle.reql_feed_spec.specs.Feeds.{Watch, nothing}
use Rattle.reql_feed_spec.specs.Kept.{is_free}
use Rattle.reql_feed_spec.specs.declared.kind.FeedKind.TheVariants as kinds
use Rattle.reql_table_spec.specs.Indexes.{Indexes}
use Rattle.reql_table_spec.specs.Table as tables
use Rattle.reql_table_spec.specs.declared.command.FeedSpec.{FeedSpec}
use Rattle.reql_plan_spec.specs.declared.parts.Opening.{Opening}
use Rattle.reql_plan_spec.specs.Feeding.{Told, Feeding, opening, range_opening, limit_opening, feed_settled, feeding}
use Rattle.reql_plan_spec.specs.Held.{Held}

abbrev pub is_followed : Watch → Bool
is_followed (nothing kind) = false
is_followed w = true

-- a feed that is opened, whatever indexes its table has, follows something
abbrev pub IsRead : FeedSpec → Type 0
IsRead spec = (indexes : Indexes) (h : tables.Held) → tables.held indexes spec ≡ Some h → is_followed (tables.feed_of h).watch ≡ true

-- a term as reading and planning leave it: its tables are looked up, each operator has arguments and options that it takes, each option once,
-- and each function names no table and no variable from outside
abbrev pub takes_all : Op → NamedForms → Bool
takes_all o no_named = true
takes_all o (named k f ms) = takes o k && (not (is_some (option k ms)) && takes_all o ms)

abbrev pub is_fit : Op → Forms → NamedForms → Bool
is_fit o fs ms = not (is_table_part (part_of o)) && (fits o (count fs) && takes_all o ms)

abbrev mutual
  pub is_planned : Form → Bool
  is_planned (several fs) = are_planned fs
  is_planned (keyed ms) = fields_planned ms
  is_planned (function ids body) = is_free [] (function ids body)
  is_planned (operation o fs ms) = is_fit o fs ms && (are_planned fs && fields_planned ms)
  is_planned f = true

  pub are_planned : Forms → Bool
  are_planned no_forms = true
  are_planned (form f fs) = is_planned f && are_planned fs

  pub fields_planned : NamedForms → Bool
  fields_planned no_named = true
  fields_planned (named k f ms) = is_planned f && fields_planned ms

-- a feed of a range: a table, or BETWEEN or GET_ALL on one, and any number of stages after it
abbrev pub RangesAreRead : Type 0
RangesAreRead = (e : Held) (t : Told) (f g : Form) (o : Opening) → is_range f ≡ true → is_planned f ≡ true → feed_settled e f ≡ Ok g → range_opening e t g ≡ Ok o → IsRead o.spec

-- a feed of one document: GET on a table
abbrev pub PointsAreRead : Type 0
PointsAreRead = (e : Held) (t : Told) (f g : Form) → shape f ≡ Some shapes.Point → is_planned f ≡ true → feed_settled e f ≡ Ok g → IsRead (opening e t g None kinds.Point).spec

-- a feed of the first ones of an order by an index
abbrev pub LimitsAreRead : Type 0
LimitsAreRead = (e : Held) (t : Told) (f g : Form) (o : Opening) → shape f ≡ Some shapes.Limit → is_planned f ≡ true → feed_settled e f ≡ Ok g → limit_opening e t g ≡ Ok o → IsRead o.spec

-- and so every feed that a request opens
abbrev pub FeedsAreRead : Type 0
FeedsAreRead = (e : Held) (fs : Forms) (ms : NamedForms) (x : Feeding) → are_planned fs ≡ true → feeding e fs ms ≡ Ok x → AllByRecursion (λ o. IsRead o.spec) x.openings
