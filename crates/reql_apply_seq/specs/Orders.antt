-- ORDER_BY: the directions of keys, the entries of an index that a source has, and rows of entries.
use Rattle.std.specs.Prelude.{ℕ, ◌-◌, nat_eq, List, [], ◌∷◌, map, slice_get, Bool, false, if◌then◌else◌, Option, option_map, option_and_then, Ok, Err}
use Rattle.std.specs.Option.{unwrap_or}
use Rattle.reql_datum.specs.Answer.{Answer, ◌>>=◌}
use Rattle.reql_datum.specs.Plain.{Plain, null}
use Rattle.reql_datum.specs.View.{plain}
use Rattle.reql_term.specs.Views.{Entry, entries_of, entries_between, entries_in}
use Rattle.reql_term.specs.declared.range.Bound.{Bound}
use Rattle.reql_term.specs.declared.range.Range.{Range}
use Rattle.reql_rules.specs.Faults.{misplaced}
use Rattle.reql_rules.specs.Lists.{Bytes, array_of, each}
use Rattle.reql_rules.specs.Sorting.{keyed_order, elements, order_all, sorted}
use Rattle.reql_rules.specs.Types.{wanted, items_in}
use Rattle.reql_value_spec.specs.Meant.{Bounds, bounded, Meant, selection, some_rows, Given, Calls, meant_of}
use Rattle.reql_value_spec.specs.Orders.{is_down, key_at, entry_keyed, index_given, order_in}
use Rattle.reql_value_spec.specs.Sequenced.{in_order}
use Rattle.reql_value_spec.specs.Wanted.{as_sequence}
use Rattle.reql_value_spec.specs.World.{World, View, view_at, entries_named}
use Rattle.reql_operand.specs.declared.value.Arg.{Arg}
use Rattle.reql_operand.specs.declared.value.Arg.TheVariants as a
use Rattle.reql_apply_seq.specs.declared.spans.Span.{Span}

-- whether a key stands under DESC
abbrev pub is_falling : Arg → Bool
is_falling (a.Value v) = false
is_falling (a.Function f) = false
is_falling (a.Directed down k) = down
is_falling (a.Late texted o) = false

-- ORDER_BY of a source, by the index that is asked for, if one is
abbrev pub ordered_by : World → Calls → Meant → List Given → List Plain → Option Given → Answer Meant
ordered_by w calls m ks ds g = index_given g >>= λ i. order_in w calls m ks ds i

abbrev pub ordered_as : World → Calls → Given → List Given → Option Given → Answer Meant
ordered_as w calls s ks g = as_sequence w s >>= λ ds. ordered_by w calls (meant_of s) ks ds g

-- ORDER_BY by some keys
abbrev pub keys_ordered : Calls → Meant → List Given → List Plain → Answer Meant
keys_ordered calls m ks ds = order_all (key_at calls ks) (map is_down ks) ds >>= λ es. Ok (in_order m es)

-- the entries of a range, none where the table or the index isn't there
abbrev pub entries_of_view : Range → Answer View → List Entry
entries_of_view r (Ok v) = unwrap_or (entries_in v.documents v.indexes v.entries r) []
entries_of_view r (Err e) = []

abbrev pub range_entries : World → ℕ → Range → List Entry
range_entries w n r = entries_of_view r (view_at w n)

-- entries of an index between bounds, in order
abbrev pub spanned : Option Bytes → Bound → Bound → View → List Entry
spanned index low high v =
    unwrap_or (option_map (entries_between (plain low.value) low.is_open (plain high.value) high.is_open false) (entries_of v.documents v.indexes v.entries index)) []

abbrev pub span_of_view : Span → Answer View → List Entry
span_of_view s (Ok v) = spanned s.index s.low s.high v
span_of_view s (Err e) = []

-- the slot of a table, and entries of it
abbrev pub span_entries : World → Span → ℕ × List Entry
span_entries w s = (s.slot, span_of_view s (view_at w s.slot))

-- the entries of a table between bounds, with its slot
abbrev pub bounded_entries : World → ℕ → Bounds → Bytes → Answer (ℕ × List Entry)
bounded_entries w n b name = do
  v ← view_at w n
  es ← entries_named v name
  Ok (n, bounded b es)

-- an index value with its document, as a row of two; and parts of such rows
abbrev pub row_of : Entry → Plain
row_of e = array_of (e.0 ∷ e.1.1 ∷ [])

abbrev pub rows_of : List Plain → List Plain → List Plain
rows_of [] ds = []
rows_of vs [] = []
rows_of (v ∷ vs) (d ∷ ds) = array_of (v ∷ d ∷ []) ∷ rows_of vs ds

abbrev pub part_at : ℕ → Plain → Option Plain
part_at i row = option_and_then (λ vs. slice_get vs i) (items_in row)

abbrev pub document_of : Plain → Plain
document_of row = unwrap_or (part_at 1 row) null

-- the keys of a row: its index value comes first
abbrev pub index_value : Plain → Answer Plain
index_value row = wanted misplaced (part_at 0 row)

abbrev pub further_key : Calls → List Given → ℕ → Plain → Answer Plain
further_key calls ks i row = wanted misplaced (part_at 1 row) >>= key_at calls ks i

abbrev pub row_key : Calls → List Given → ℕ → Plain → Answer Plain
row_key calls ks i row = if nat_eq i 0 then index_value row else further_key calls ks (i - 1) row

-- rows in order, as their documents
abbrev pub rows_ordered : Calls → Bool → List Given → List Entry → Answer (List Plain)
rows_ordered calls down ks es = do
  rs ← order_all (row_key calls ks) (down ∷ map is_down ks) (map row_of es)
  Ok (map document_of rs)

abbrev pub rows_selected : Calls → ℕ → Bool → List Given → List Entry → Answer Meant
rows_selected calls n down ks es = rows_ordered calls down ks es >>= λ ds. Ok (selection n some_rows ds)

-- the same of entries, by their index values and then by keys
abbrev pub further_selected : Calls → ℕ → Bool → List Given → List Entry → Answer Meant
further_selected calls n down ks es = do
  rs ← each (entry_keyed calls ks) es
  Ok (selection n some_rows (elements (sorted (keyed_order (down ∷ map is_down ks)) rs)))
