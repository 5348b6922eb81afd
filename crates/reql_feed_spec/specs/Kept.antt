-- What a feed keeps of its request, and what it follows: a key, a range shape, or an order, with the index definition that stood when it was opened.
use Rattle.std.specs.Prelude.{ℕ, nat_eq, List, [], ◌∷◌, Bool, true, false, ◌&&◌, ◌||◌, if◌then◌else◌}
use Rattle.reql_datum.specs.Order.{order}
use Rattle.reql_datum.specs.Plain.{Plain}
use Rattle.reql_memory.specs.Sorted.{AreRisingBy}
use Rattle.reql_rules.specs.Lists.{Bytes}
use Rattle.reql_term.specs.Form.{Form, literal, several, keyed, variable, implicit, function, slot, operation, Forms, no_forms, form, NamedForms, no_named, named}
use Rattle.reql_term.specs.Views.{Document, Index}
use Rattle.reql_value_spec.specs.Depends.{is_bound, has_single}
use Rattle.reql_value_spec.specs.Index.{plain_view}
use Rattle.reql_value_spec.specs.Shapes.{is_stage, is_part, rows_over}
use Rattle.reql_value_spec.specs.World.{bare_world}
use Rattle.reql_feed_spec.specs.Value.{Change, selected}
use Rattle.reql_feed_spec.specs.Moving.{AreNoNulls, BringNoNulls, selected_by_key}
use Rattle.reql_feed_spec.specs.Watched.{Part, lies_in}
use Rattle.reql_feed_spec.specs.Feeds.{Watch, one_key, all_given, first_of, nothing}
use Rattle.reql_feed_spec.specs.Folds.{AllFollow}
use Rattle.reql_feed_spec.specs.declared.kind.FeedKind.{FeedKind}
use Rattle.reql_feed_spec.specs.declared.kind.FeedKind.TheVariants as kinds

-- no slot stands in a term, and each variable is bound by a function around it
abbrev mutual
  pub is_free : List (List ℕ) → Form → Bool
  is_free scope (literal d) = true
  is_free scope (several fs) = are_free scope fs
  is_free scope (keyed ms) = fields_free scope ms
  is_free scope (variable id) = is_bound scope id
  is_free scope implicit = has_single scope
  is_free scope (function ids body) = is_free (ids ∷ scope) body
  is_free scope (slot n) = false
  is_free scope (operation o fs ms) = are_free scope fs && fields_free scope ms

  pub are_free : List (List ℕ) → Forms → Bool
  are_free scope no_forms = true
  are_free scope (form f fs) = is_free scope f && are_free scope fs

  pub fields_free : List (List ℕ) → NamedForms → Bool
  fields_free scope no_named = true
  fields_free scope (named k f ms) = is_free scope f && fields_free scope ms

abbrev pub is_table : ℕ → Form → Bool
is_table n (slot k) = nat_eq k n
is_table n f = false

abbrev pub on_table : ℕ → Forms → Bool
on_table n no_forms = false
on_table n (form f fs) = is_table n f && are_free [] fs

-- the table of a slot, or a part of it, or a stage over such a shape
abbrev mutual
  pub is_shape : ℕ → Form → Bool
  is_shape n (slot k) = nat_eq k n
  is_shape n (operation o fs ms) = fields_free [] ms && ((is_stage o && on_shape n fs) || (is_part o && on_table n fs))
  is_shape n (literal d) = false
  is_shape n (several fs) = false
  is_shape n (keyed ms) = false
  is_shape n (variable id) = false
  is_shape n implicit = false
  is_shape n (function ids body) = false

  pub on_shape : ℕ → Forms → Bool
  on_shape n no_forms = false
  on_shape n (form f fs) = is_shape n f && are_free [] fs

-- by a key; by a term over the slot of its table, with the table's key field and the indexes that its term may name; by the first n in the order of an index, or by primary key
pub data Kept : Type 0 where
  by_key : Plain → Kept
  by_shape : Bytes → List (Bytes × Index) → ℕ → Form → Kept
  by_index : Index → Part → Bool → ℕ → Kept
  by_primary : Part → Bool → ℕ → Kept
  of_no_kind : FeedKind → Kept

-- a term that is no shape, and an order by a multi index, show nothing
abbrev pub watch_of : Kept → Watch
watch_of (by_key key) = one_key key
watch_of (by_shape field indexes n f) = if is_shape n f then all_given (rows_over bare_world n (plain_view [] 0 [] field [] indexes) f) else nothing kinds.Range
watch_of (by_index i part down count) = if i.1 then nothing (kinds.Limit count) else first_of count (selected i (lies_in part) down)
watch_of (by_primary part down count) = first_of count (selected_by_key (lies_in part) down)
watch_of (of_no_kind kind) = nothing kind

-- along all changes of a table whose documents rise by key and are no nulls, every feed follows what it keeps
abbrev pub KeptFeedsFollow : Type 0
KeptFeedsFollow = (k : Kept) (docs : List Document) (cs : List Change) → AreRisingBy order docs → AreNoNulls docs → BringNoNulls cs → AllFollow (watch_of k) docs cs
