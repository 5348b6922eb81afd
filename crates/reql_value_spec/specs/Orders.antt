-- ORDER_BY and DISTINCT (ReQL API reference: orderBy, distinct).
use Rattle.std.specs.Prelude.{ℕ, List, [], ◌∷◌, map, slice_get, Bool, false, if◌then◌else◌, Option, Some, None, option_and_then, Ok, Err, codes}
use Rattle.reql_datum.specs.Answer.{Answer, ◌>>=◌}
use Rattle.reql_datum.specs.Members.{find}
use Rattle.reql_datum.specs.Plain.{Plain}
use Rattle.reql_term.specs.Views.{Entry, documents_in, values_in, directed}
use Rattle.reql_rules.specs.Faults.{misplaced, misplaced_order}
use Rattle.reql_rules.specs.Types.{same_text, text_in}
use Rattle.reql_rules.specs.Lists.{Bytes, each}
use Rattle.reql_rules.specs.Sorting.{Keyed, keys_from, keyed_order, elements, order_all, sorted, distinct}
use Rattle.reql_value_spec.specs.Called.{answer_key}
use Rattle.reql_value_spec.specs.Meant.{bounded, Kind, slice_between, slice_in_order, some_rows, Meant, stream, selection, table, Given, directed as with_direction, Calls, Rule, meant_of}
use Rattle.reql_value_spec.specs.Sequenced.{like, in_order}
use Rattle.reql_value_spec.specs.Wanted.{as_sequence, index_text, value_in, accepted}
use Rattle.reql_value_spec.specs.World.{World, view_at, entries_named}

-- a slice of a table between bounds of the same index, by this index; with its slot
abbrev pub bounded_source : World → ℕ → Kind → Bytes → Answer (ℕ × List Entry)
bounded_source w n (slice_between b) name = if same_text b.index name then (do
  v ← view_at w n
  es ← entries_named v name
  Ok (n, bounded b es)) else Err misplaced_order
bounded_source w n k name = Err misplaced_order

-- a source by an index: a table, or a slice of it between bounds of the same index; with its slot
abbrev pub index_source : World → Bytes → Meant → Answer (ℕ × List Entry)
index_source w name (table n) = do
  v ← view_at w n
  es ← entries_named v name
  Ok (n, es)
index_source w name (selection n k ds) = bounded_source w n k name
index_source w name m = Err misplaced_order

-- a whole table by an index
abbrev pub table_source : World → Bytes → Meant → Answer (List Entry)
table_source w name (table n) = view_at w n >>= λ v. entries_named v name
table_source w name m = Err misplaced_order

abbrev pub is_down : Given → Bool
is_down (with_direction down g) = down
is_down g = false

abbrev pub key_in : Given → Given
key_in (with_direction down g) = g
key_in g = g

-- the i-th key of an element
abbrev pub key_answer : Calls → Option Given → Plain → Answer Plain
key_answer calls None d = Err misplaced
key_answer calls (Some g) d = answer_key calls (key_in g) d

abbrev pub key_at : Calls → List Given → ℕ → Plain → Answer Plain
key_at calls ks i d = key_answer calls (slice_get ks i) d

-- `index`: a name, ASC or DESC of one
abbrev pub index_given : Option Given → Answer (Option (Bytes × Bool))
index_given None = Ok None
index_given (Some g) = do
  s ← accepted (codes "index") (option_and_then text_in (value_in (meant_of (key_in g))))
  Ok (option_and_then (λ name. Some (name, is_down g)) s)

abbrev pub order_by_keys : Calls → Meant → List Given → List Plain → Answer Meant
order_by_keys calls m [] ds = Err misplaced_order
order_by_keys calls m (k ∷ ks) ds = do
  es ← order_all (key_at calls (k ∷ ks)) (map is_down (k ∷ ks)) ds
  Ok (in_order m es)

-- an entry's document, with the index value as its first key
abbrev pub entry_keyed : Calls → List Given → Entry → Answer Keyed
entry_keyed calls ks e = do
  js ← keys_from (key_at calls ks) 0 (map is_down ks) e.1.1
  Ok (Some e.0 ∷ js, e.1.1)

-- the index order comes first; without further keys the rows are a table slice
abbrev pub order_by_index : Calls → ℕ → Bool → List Given → List Entry → Answer Meant
order_by_index calls n down [] es = Ok (selection n slice_in_order (documents_in es))
order_by_index calls n down (k ∷ ks) es = do
  rs ← each (entry_keyed calls (k ∷ ks)) es
  Ok (selection n some_rows (elements (sorted (keyed_order (down ∷ map is_down (k ∷ ks))) rs)))

abbrev pub order_in : World → Calls → Meant → List Given → List Plain → Option (Bytes × Bool) → Answer Meant
order_in w calls m ks ds None = order_by_keys calls m ks ds
order_in w calls m ks ds (Some i) = do
  s ← index_source w i.0 m
  order_by_index calls s.0 i.1 ks (directed i.1 s.1)

abbrev pub order_by : Rule
order_by w calls (s ∷ ks) opts = do
  ds ← as_sequence w s
  i ← index_given (find (codes "index") opts)
  order_in w calls (meant_of s) ks ds i
order_by w calls [] opts = Err misplaced

abbrev pub distinct_in : World → Meant → List Plain → Option Bytes → Answer Meant
distinct_in w m ds None = Ok (like m (distinct ds))
distinct_in w m ds (Some name) = do
  es ← table_source w name m
  Ok (stream (distinct (values_in es)))

abbrev pub distinct_rule : Rule
distinct_rule w calls (s ∷ []) opts = do
  ds ← as_sequence w s
  i ← index_text opts
  distinct_in w (meant_of s) ds i
distinct_rule w calls gs opts = Err misplaced
