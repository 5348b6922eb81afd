-- The entries of an index, and the documents that they have for keys.
use Rattle.std.specs.Prelude.{ℕ, Bool, List, [], Option, Some, None, Ok, Err}
use Rattle.std.specs.Option.{unwrap_or}
use Rattle.reql_datum.specs.Answer.{Answer, ◌>>=◌}
use Rattle.reql_datum.specs.Keys.{is_key}
use Rattle.reql_datum.specs.Kinds.{is_storable}
use Rattle.reql_datum.specs.Order.{order}
use Rattle.reql_datum.specs.Plain.{Plain}
use Rattle.reql_memory.specs.Sorted.{find_by}
use Rattle.reql_term.specs.Views.{Entry, all_of, beside, documents_in, entries_of}
use Rattle.reql_rules.specs.Faults.{no_index}
use Rattle.reql_rules.specs.Lists.{Bytes, each}
use Rattle.reql_value_spec.specs.Meant.{Bounds, bounded, slice_between, Meant, Given, Options, selection, row, some_rows}
use Rattle.reql_value_spec.specs.Tables.{key_if, may_bound, index_or_key, entries_by}
use Rattle.reql_value_spec.specs.Wanted.{as_datum, as_data, index_text, left_is_open, right_is_open}
use Rattle.reql_value_spec.specs.World.{View, entries_named}

-- the entries of an index, or of the primary order; none where there is no such index
abbrev pub entries_at : View → Option Bytes → List Entry
entries_at v i = unwrap_or (entries_of v.documents v.indexes v.entries i) []

-- the values of the entries of the index of a name, and beside them their documents
abbrev pub entries_beside : View → Bytes → Answer (List Plain × List Plain)
entries_beside v name = entries_named v name >>= λ es. Ok (beside es)

-- the documents of the entries that have each of the keys, by the index of a name
abbrev pub having : View → Bytes → List Plain → Answer (List Plain)
having v name keys = entries_named v name >>= λ es. Ok (all_of keys es)

-- what is found, or the fault that no index has the name
abbrev pub found : {A : Type 0} → Bytes → Option A → Answer A
found name None = Err (no_index name)
found name (Some x) = Ok x

-- a slice of a table between bounds
abbrev pub sliced : ℕ → View → Bounds → Answer Meant
sliced n v b = entries_named v b.index >>= λ es. Ok (selection n (slice_between b) (documents_in (bounded b es)))

-- the row of a key
abbrev pub row_at : ℕ → View → Given → Answer Meant
row_at n v k = do
  d ← as_datum k
  key ← key_if is_key d
  Ok (row n key (find_by order key v.documents))

-- a slice of a table by the index and the kinds of bounds that are asked for
abbrev pub bounded_by : View → Option Bytes → Plain → Bool → Plain → Bool → Bounds
bounded_by v i l lo h ho = record { index = index_or_key v i; low = l; low_open = lo; high = h; high_open = ho }

abbrev pub sliced_by : ℕ → View → Plain → Plain → Options → Answer Meant
sliced_by n v l h opts = do
  i ← index_text opts
  lo ← left_is_open opts
  ho ← right_is_open opts
  sliced n v (bounded_by v i l lo h ho)

abbrev pub between_at : ℕ → View → Given → Given → Options → Answer Meant
between_at n v l h opts = do
  d ← as_datum l
  e ← as_datum h
  low ← key_if may_bound d
  high ← key_if may_bound e
  sliced_by n v low high opts

-- the rows that have each of the keys, by the index that is asked for
abbrev pub rows_by : ℕ → View → List Plain → Options → Answer Meant
rows_by n v ds opts = do
  keys ← each (key_if is_storable) ds
  i ← index_text opts
  es ← entries_by v i
  Ok (selection n some_rows (all_of keys es))

abbrev pub rows_at : ℕ → View → List Given → Options → Answer Meant
rows_at n v ks opts = do
  ds ← as_data ks
  rows_by n v ds opts
