-- GET, GET_ALL, BETWEEN, the indexes of a table, DB, INFO, CONFIG and STATUS (ReQL API reference: get, getAll, between, indexList,
-- indexStatus, indexWait, db, info, config, status).
use Rattle.std.specs.Prelude.{ℕ, length, List, [], ◌∷◌, map, Bool, not, if◌then◌else◌, Option, Some, None, Ok, Err, codes}
use Rattle.std.specs.Option.{unwrap_or}
use Rattle.reql_datum.specs.Answer.{Answer, ◌>>=◌}
use Rattle.reql_datum.specs.Keys.{is_key}
use Rattle.reql_datum.specs.Members.{find}
use Rattle.reql_datum.specs.Order.{order}
use Rattle.reql_datum.specs.Kinds.{is_storable, type_name}
use Rattle.reql_datum.specs.Plain.{Plain, text}
use Rattle.reql_memory.specs.Sorted.{find_by}
use Rattle.reql_term.specs.Views.{Entry, Index, documents_in, all_of}
use Rattle.reql_rules.specs.Admin.{About, db_info, db_config, table_info, table_config, table_status, index_status, type_info}
use Rattle.reql_rules.specs.Faults.{misplaced, not_a_key, no_index}
use Rattle.reql_rules.specs.Types.{is_null}
use Rattle.reql_rules.specs.Lists.{Bytes, each}
use Rattle.reql_value_spec.specs.Meant.{Bounds, bounded, slice_between, some_rows, Meant, selection, row, table, database, Gives, Rule, name_of, meant_of}
use Rattle.reql_value_spec.specs.Wanted.{wrong, as_datum, as_data, as_text, as_table, index_text, left_is_open, right_is_open, value_in}
use Rattle.reql_value_spec.specs.World.{World, View, view_at, entries_named}

abbrev pub key_if : (Plain → Bool) → Plain → Answer Plain
key_if test d = if test d then Ok d else Err (not_a_key (type_name d))

abbrev pub get_rule : Rule
get_rule w calls (t ∷ k ∷ []) opts = do
  v ← as_table w t
  d ← as_datum k
  key ← key_if is_key d
  Ok (row v.0 key (find_by order key v.1.documents))
get_rule w calls gs opts = Err misplaced

-- the index that is named, or the primary order
abbrev pub index_or_key : View → Option Bytes → Bytes
index_or_key v i = unwrap_or i v.key

abbrev pub entries_by : View → Option Bytes → Answer (List Entry)
entries_by v i = entries_named v (index_or_key v i)

-- what can't be stored is no key; what is no key otherwise finds nothing
abbrev pub get_all_rule : Rule
get_all_rule w calls (t ∷ ks) opts = do
  v ← as_table w t
  ds ← as_data ks
  keys ← each (key_if is_storable) ds
  i ← index_text opts
  es ← entries_by v.1 i
  Ok (selection v.0 some_rows (all_of keys es))
get_all_rule w calls [] opts = Err misplaced

abbrev pub may_bound : Plain → Bool
may_bound d = not (is_null d)

abbrev pub between_rule : Rule
between_rule w calls (t ∷ l ∷ h ∷ []) opts = do
  v ← as_table w t
  d ← as_datum l
  e ← as_datum h
  low ← key_if may_bound d
  high ← key_if may_bound e
  i ← index_text opts
  low_open ← left_is_open opts
  high_open ← right_is_open opts
  es ← entries_by v.1 i
  let b : Bounds = record { index = index_or_key v.1 i; low = low; low_open = low_open; high = high; high_open = high_open } in
      Ok (selection v.0 (slice_between b) (documents_in (bounded b es)))
between_rule w calls gs opts = Err misplaced

-- the indexes of a table

abbrev pub index_names : View → List Bytes
index_names v = map (λ i. i.0) v.indexes

abbrev pub index_list_rule : Gives (List Plain)
index_list_rule w calls (t ∷ []) opts = do
  v ← as_table w t
  Ok (map text (index_names v.1))
index_list_rule w calls gs opts = Err misplaced

abbrev pub status_of : Bytes → Option Index → Answer Plain
status_of name None = Err (no_index name)
status_of name (Some i) = Ok (index_status name i.1)

-- all of them where none is named
abbrev pub or_all : List Bytes → List Bytes → List Bytes
or_all all [] = all
or_all all (n ∷ ns) = n ∷ ns

-- INDEX_STATUS and INDEX_WAIT
abbrev pub index_statuses : Gives (List Plain)
index_statuses w calls (t ∷ gs) opts = do
  v ← as_table w t
  names ← each as_text gs
  each (λ n. status_of n (find n v.1.indexes)) (or_all (index_names v.1) names)
index_statuses w calls [] opts = Err misplaced

-- databases, and what INFO, CONFIG and STATUS tell

abbrev pub named_database : Option Plain → Answer Meant
named_database (Some (text name)) = Ok (database name)
named_database d = Err misplaced

abbrev pub db_rule : Rule
db_rule w calls (g ∷ []) opts = named_database (value_in (meant_of g))
db_rule w calls gs opts = Err misplaced

abbrev pub number_of : Option ℕ → Answer ℕ
number_of None = Err misplaced
number_of (Some n) = Ok n

abbrev pub database_number : World → Bytes → Answer ℕ
database_number w name = number_of (find name w.databases)

abbrev pub about : ℕ → View → About
about n v = record { slot = n; db = v.db; db_number = v.db_number; name = v.name; key = v.key; indexes = index_names v }

abbrev pub info_of : World → Meant → Answer Plain
info_of w (table n) = view_at w n >>= λ v. Ok (table_info (about n v) (length v.documents))
info_of w (database name) = database_number w name >>= λ k. Ok (db_info name k)
info_of w m = Ok (type_info (name_of m))

abbrev pub config_of : World → Meant → Answer Plain
config_of w (table n) = view_at w n >>= λ v. Ok (table_config (about n v))
config_of w (database name) = database_number w name >>= λ k. Ok (db_config name k)
config_of w m = Err (wrong (codes "TABLE") m)

-- INFO and CONFIG
abbrev pub told : (World → Meant → Answer Plain) → Gives Plain
told f w calls (g ∷ []) opts = f w (meant_of g)
told f w calls gs opts = Err misplaced

abbrev pub status_rule : Gives Plain
status_rule w calls (t ∷ []) opts = do
  v ← as_table w t
  Ok (table_status (about v.0 v.1))
status_rule w calls gs opts = Err misplaced
