-- What the values of code stand for in a world of tables.
use Rattle.std.specs.Prelude.{ℕ, List, [], map, drop, Option, Some, None, option_map, Result, Ok, Err}
use Rattle.reql_datum.specs.Answer.{Answer, Reason, query_logic, non_existence, resource_limit, op_failed, user, no_text}
use Rattle.reql_datum.specs.Plain.{Plain}
use Rattle.reql_datum.specs.View.{plain}
use Rattle.reql_datum.specs.declared.fault.Fault.{Fault}
use Rattle.reql_datum.specs.declared.fault.Fault.TheVariants as f
use Rattle.reql_term.specs.Views.{Entry, documents_in, entries_in}
use Rattle.reql_term.specs.declared.range.Range.{Range}
use Rattle.reql_rules.specs.Lists.{Bytes}
use Rattle.reql_value_spec.specs.Meant as m
use Rattle.reql_value_spec.specs.World.{World, View, view_at}
use Rattle.reql_operand.specs.declared.value.Bounds.{Bounds}
use Rattle.reql_operand.specs.declared.value.Slice.{Slice}
use Rattle.reql_operand.specs.declared.value.Slice.TheVariants as s
use Rattle.reql_operand.specs.declared.value.Rows.{Rows}
use Rattle.reql_operand.specs.declared.value.Rows.TheVariants as r
use Rattle.reql_operand.specs.declared.value.Group.{Group}
use Rattle.reql_operand.specs.declared.value.Value.{Value}
use Rattle.reql_operand.specs.declared.value.Value.TheVariants as v
use Rattle.reql_operand.specs.declared.value.Key.{Key}
use Rattle.reql_operand.specs.declared.value.Key.TheVariants as k
use Rattle.reql_operand.specs.declared.value.Arg.{Arg}
use Rattle.reql_operand.specs.declared.value.Arg.TheVariants as a
use Rattle.reql_operand.specs.declared.value.Choice.{Choice}

abbrev pub bounds : Bounds → m.Bounds
bounds b = record { index = b.index; low = plain b.low.value; low_open = b.low.is_open; high = plain b.high.value; high_open = b.high.is_open }

abbrev pub slice : Slice → m.Kind
slice (s.Between b) = m.slice_between (bounds b)
slice s.InOrder = m.slice_in_order
slice (s.Rest passed) = m.some_rows

-- the rows of a slice, of those of its range
abbrev pub left_of : Slice → List Plain → List Plain
left_of (s.Between b) ds = ds
left_of s.InOrder ds = ds
left_of (s.Rest passed) ds = drop passed ds

abbrev pub rows : Rows → m.Kind
rows r.InSequence = m.some_rows
rows r.InArray = m.rows_in_array

abbrev pub group : Group → Plain × Plain
group g = (plain g.group, plain g.value)

-- the documents of a range of a table, none where the table or the index isn't there
abbrev pub documents_of_entries : Option (List Entry) → List Plain
documents_of_entries None = []
documents_of_entries (Some es) = documents_in es

abbrev pub documents_of_view : Range → Answer View → List Plain
documents_of_view r (Ok v) = documents_of_entries (entries_in v.documents v.indexes v.entries r)
documents_of_view r (Err e) = []

abbrev pub documents_at : World → ℕ → Range → List Plain
documents_at w n r = documents_of_view r (view_at w n)

abbrev pub meant : World → Value → m.Meant
meant w (v.One d) = m.one (plain d)
meant w (v.Stream ds) = m.stream ds
meant w (v.Selection n k ds) = m.selection n (rows k) ds
meant w (v.Unread n k r) = m.selection n (slice k) (left_of k (documents_at w n r))
meant w (v.Row n d e) = m.row n (plain d) (option_map plain e)
meant w (v.Table n) = m.table n
meant w (v.Grouped gs) = m.grouped (map group gs.items)
meant w (v.Database name) = m.database name
meant w v.Function = m.callable

-- why a call gave nothing; want of memory is no reason, and is never kept
abbrev pub reason : Fault → Reason
reason (f.QueryLogic t) = query_logic t
reason (f.NonExistence t) = non_existence t
reason (f.ResourceLimit t) = resource_limit t
reason (f.OpFailed t) = op_failed t
reason (f.User t) = user t
reason f.Empty = no_text
reason f.Memory = no_text

abbrev pub answered : World → Result Value Fault → Answer m.Meant
answered w (Ok v) = Ok (meant w v)
answered w (Err e) = Err (reason e)

abbrev pub key : World → Key → m.Given
key w (k.Value v) = m.given (meant w v)
key w (k.Function f) = m.callee f.makes_object f.at

abbrev pub shown : World → Arg → m.Given
shown w (a.Value v) = m.given (meant w v)
shown w (a.Function f) = m.callee f.makes_object f.at
shown w (a.Directed down k) = m.directed down (key w k)
shown w (a.Late texted o) = m.late texted (answered w o)

abbrev pub choice : World → Choice → Bytes × m.Given
choice w o = (o.name, shown w o.arg)

abbrev pub all_shown : World → List Arg → List m.Given
all_shown w gs = map (shown w) gs

abbrev pub all_chosen : World → List Choice → m.Options
all_chosen w os = map (choice w) os
