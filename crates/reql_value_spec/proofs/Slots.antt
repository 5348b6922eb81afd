-- Each rule reads tables by the slots of its arguments alone, and gives no other slot.
use Rattle.std.proofs.Common.{◌≡◌, refl, ap, ◌∙◌, ℕ, Bool, true, false, List, [], ◌∷◌, if◌then◌else◌, Option, Some, None, Ok, Err}
use Rattle.std.specs.Prelude.{codes, take, drop}
use Rattle.reql_datum.specs.Answer.{Answer, ◌>>=◌}
use Rattle.reql_datum.specs.Kinds.{is_storable}
use Rattle.reql_datum.specs.Members.{find}
use Rattle.reql_datum.specs.Plain.{Plain, low, boolean, number, object, binary, text, high}
use Rattle.reql_term.specs.Views.{Entry}
use Rattle.reql_term.specs.declared.op.Op.{Op}
use Rattle.reql_term.specs.declared.op.Op.TheVariants as op
use Rattle.reql_rules.specs.Lists.{Bytes, array_of, each}
use Rattle.reql_rules.specs.Mapping.{concat_all}
use Rattle.reql_rules.specs.Types.{same_text}
use Rattle.reql_rules.specs.Patterns.{pluck, without}
use Rattle.reql_rules.specs.declared.words.Arith.TheVariants as arith
use Rattle.reql_rules.specs.declared.words.Relate.TheVariants as relation
use Rattle.reql_rules.specs.declared.words.Edit.TheVariants as edit
use Rattle.reql_rules.specs.declared.words.SetOp.TheVariants as set
use Rattle.reql_rules.specs.declared.words.Total.{Total}
use Rattle.reql_rules.specs.declared.words.Total.TheVariants as total
use Rattle.reql_rules.specs.Fields.{get_field, get_fields, on_each}
use Rattle.reql_rules.specs.Places.{counted_as}
use Rattle.reql_rules.specs.Sorting.{elements as values_of, keyed_order, order_all, sorted}
use mathlib.Core.List.{map}
use Rattle.reql_datum.specs.Keys.{is_key}
use Rattle.reql_memory.specs.Sorted.{find_by}
use Rattle.reql_datum.specs.Order.{order}
use Rattle.reql_value_spec.specs.World.{World, view_at, documents_of, entries_named}
use Rattle.reql_value_spec.specs.Meant.{Meant, one, stream, selection, row, table, grouped, database, callable, Kind, slice_between, slice_in_order, some_rows, rows_in_array, Given, given, callee, directed, late, Calls, Options, Gives, Rule, meant_of}
use Rattle.reql_value_spec.specs.Wanted.{seen, as_data, as_datum, as_text, as_table, as_sequence, to_sequence, to_table, text_option, datum_in, left_is_open, right_is_open}
use Rattle.reql_value_spec.specs.Sequenced.{like, alike, in_order, giving, by_first}
use Rattle.reql_value_spec.specs.Called.{answer, answer_items}
use Rattle.reql_value_spec.specs.Scalars.{make_array, raise, funcall, type_of, literal, constant, comparison, negation, arithmetic, epoch_time, to_epoch_time}
use Rattle.reql_value_spec.specs.Coercions.{coerced, coerce_to}
use Rattle.reql_value_spec.specs.Arrays.{end_edit, place_edit, delete_at, splice_at, set_insert, set_operation}
use Rattle.reql_value_spec.specs.Fields.{Subject, object_alone, elements, subject_of, field_subject, field_of, get_field_rule, nth_rule, bracket_by, bracket, patterns, has_fields_of, has_fields_rule, with_fields, on_subject, by_patterns, merge_rule, keys_rule, values_rule, object_rule, has_all, having}
use Rattle.reql_value_spec.specs.Sequences.{reduce_rule, map_rule, concat_map, filter_rule, count_datum, count_rule, union_rule, slice_rule, counted_part, is_empty, offsets_of, contains, range_rule, are_arrays}
use Rattle.reql_value_spec.specs.Orders.{bounded_source, index_source, table_source, index_given, order_by_keys, order_by_index, order_in, order_by, distinct_in, distinct_rule, entry_keyed, is_down, key_at}
use Rattle.reql_value_spec.specs.Groups.{group_in, group_rule, ungroup_rule, total_rule}
use Rattle.reql_value_spec.specs.Joins.{join_rule, eq_join, zip_rule}
use Rattle.reql_value_spec.specs.Tables.{get_rule, get_all_rule, between_rule, index_list_rule, index_statuses, named_database, db_rule, told, info_of, config_of, status_rule, key_if, index_or_key, may_bound}
use Rattle.reql_value_spec.specs.Table.{rule_of}
use Rattle.reql_value_spec.specs.Depends.{Agree}

module _ {A : Type 0} where
  -- what an answer gives is so
  abbrev pub Each : (A → Type 0) → Answer A → Type 0
  Each Q (Ok x) = Q x
  Each Q (Err e) = Unit {0}

module _ {A B : Type 0} where
  pub then_each : (Q : B → Type 0) (a : Answer A) (f : A → Answer B) → ((x : A) → Each Q (f x)) → Each Q (a >>= f)
  then_each Q (Ok x) f h = h x
  then_each Q (Err e) f h = tt

  pub then_each_if : (P : A → Type 0) (Q : B → Type 0) (a : Answer A) (f : A → Answer B) → Each P a → ((x : A) → P x → Each Q (f x)) → Each Q (a >>= f)
  then_each_if P Q (Ok x) f p h = h x p
  then_each_if P Q (Err e) f p h = tt

  -- the same at what an answer gives
  pub then_same : (P : A → Type 0) (a : Answer A) (f g : A → Answer B) → Each P a → ((x : A) → P x → f x ≡ g x) → (a >>= f) ≡ (a >>= g)
  then_same P (Ok x) f g p h = h x p
  then_same P (Err e) f g p h = refl

  pub both_same : (P : A → Type 0) (a b : Answer A) (f g : A → Answer B) → a ≡ b → Each P a → ((x : A) → P x → f x ≡ g x) → (a >>= f) ≡ (b >>= g)
  both_same P a b f g e p h = then_same P a f g p h ∙ ap (λ c. c >>= g) e

  pub first_same : (a b : Answer A) (f : A → Answer B) → a ≡ b → (a >>= f) ≡ (b >>= f)
  first_same a b f e = ap (λ c. c >>= f) e

pub everything : {A : Type 0} (a : Answer A) → Each (λ x. Unit {0}) a
everything (Ok x) = tt
everything (Err e) = tt

pub if_each : {A : Type 0} (Q : A → Type 0) (b : Bool) (x y : A) → Q x → Q y → Q (if b then x else y)
if_each Q true x y h g = h
if_each Q false x y h g = g

-- slots that are allowed
module _ (P : ℕ → Type 0) where
  abbrev pub In : Meant → Type 0
  In (table n) = P n
  In (selection n k ds) = P n
  In m = Unit {0}

  abbrev pub InGiven : Given → Type 0
  InGiven (given m) = In m
  InGiven g = Unit {0}

  abbrev pub InAll : List Given → Type 0
  InAll [] = Unit {0}
  InAll (g ∷ gs) = InGiven g × InAll gs

  abbrev pub CallsIn : Calls → Type 0
  CallsIn calls = (at : ℕ) (ds : List Plain) → Each In (calls at ds)

module _ (P : ℕ → Type 0) (w v : World) (agree : Agree P w v) where
  abbrev pub SameRule : {A : Type 0} → Gives A → Type 0
  SameRule f = (calls : Calls) (gs : List Given) (opts : Options) → CallsIn P calls → InAll P gs → f w calls gs opts ≡ f v calls gs opts

  abbrev pub KeepsRule : Rule → Type 0
  KeepsRule f = (calls : Calls) (gs : List Given) (opts : Options) → CallsIn P calls → InAll P gs → Each (In P) (f w calls gs opts)

  -- ---- arguments
  meant_in : (g : Given) → InGiven P g → In P (meant_of g)
  meant_in (given m) h = h
  meant_in (callee o at) h = tt
  meant_in (directed down g) h = tt
  meant_in (late texted a) h = tt

  answer_in : (calls : Calls) → CallsIn P calls → (g : Given) → InGiven P g → (ds : List Plain) → Each (In P) (answer calls g ds)
  answer_in calls k (given m) h ds = h
  answer_in calls k (callee o at) h ds = k at ds
  answer_in calls k (directed down g) h ds = tt
  answer_in calls k (late texted a) h ds = tt

  sequence_same : (m : Meant) → In P m → to_sequence w m ≡ to_sequence v m
  sequence_same (table n) h = ap (λ a. a >>= λ t. Ok (documents_of t)) (agree.views n h)
  sequence_same m h = refl

  given_sequence_same : (g : Given) → InGiven P g → as_sequence w g ≡ as_sequence v g
  given_sequence_same g h = sequence_same (meant_of g) (meant_in g h)

  table_same : (m : Meant) → In P m → to_table w m ≡ to_table v m
  table_same (table n) h = ap (λ a. a >>= λ t. Ok (n, t)) (agree.views n h)
  table_same m h = refl

  given_table_same : (g : Given) → InGiven P g → as_table w g ≡ as_table v g
  given_table_same g h = table_same (meant_of g) (meant_in g h)

  table_in : (m : Meant) → In P m → Each (λ t. P t.0) (to_table w m)
  table_in (table n) h = then_each (λ t. P t.0) (view_at w n) (λ t. Ok (n, t)) (λ t. h)
  table_in (one d) h = tt
  table_in (stream ds) h = tt
  table_in (selection n k ds) h = tt
  table_in (row n k d) h = tt
  table_in (grouped gs) h = tt
  table_in (database name) h = tt
  table_in callable h = tt

  subject_same : (m : Meant) → In P m → subject_of w m ≡ subject_of v m
  subject_same (table n) h = ap (λ a. a >>= λ t. Ok (elements (documents_of t))) (agree.views n h)
  subject_same m h = refl

  given_subject_same : (g : Given) → InGiven P g → subject_of w (meant_of g) ≡ subject_of v (meant_of g)
  given_subject_same g h = subject_same (meant_of g) (meant_in g h)

  field_subject_same : (g : Given) → InGiven P g → field_subject w g ≡ field_subject v g
  field_subject_same g h = rw (given_subject_same g h) refl

  items_same : (calls : Calls) → CallsIn P calls → (g : Given) → InGiven P g → (d : Plain) → answer_items w calls g d ≡ answer_items v calls g d
  items_same calls k g h d = then_same (In P) (answer calls g (d ∷ [])) (λ m. to_sequence w m >>= λ ds. Ok (array_of ds)) (λ m. to_sequence v m >>= λ ds. Ok (array_of ds))
      (answer_in calls k g h (d ∷ [])) (λ m i. ap (λ a. a >>= λ ds. Ok (array_of ds)) (sequence_same m i))

  -- ---- kinds of rules
  pub giving_same : {A : Type 0} (make : A → Meant) (f : Gives A) → SameRule f → SameRule (giving make f)
  giving_same make f s calls gs opts k h = ap (λ a. a >>= λ x. Ok (make x)) (s calls gs opts k h)

  pub giving_in : {A : Type 0} (make : A → Meant) (f : Gives A) → ((x : A) → In P (make x)) → KeepsRule (giving make f)
  giving_in make f h calls gs opts k i = then_each (In P) (f w calls gs opts) (λ x. Ok (make x)) h

  pub by_first_same : (make : Meant → List Plain → Meant) (f : Gives (List Plain)) → SameRule f → SameRule (by_first make f)
  by_first_same make f s calls [] opts k h = refl
  by_first_same make f s calls (g ∷ gs) opts k h = ap (λ a. a >>= λ ds. Ok (make (meant_of g) ds)) (s calls (g ∷ gs) opts k h)

  pub by_first_in : (make : Meant → List Plain → Meant) (f : Gives (List Plain)) → ((m : Meant) → In P m → (ds : List Plain) → In P (make m ds)) → KeepsRule (by_first make f)
  by_first_in make f i calls [] opts k h = tt
  by_first_in make f i calls (g ∷ gs) opts k h = then_each (In P) (f w calls (g ∷ gs) opts) (λ ds. Ok (make (meant_of g) ds)) (λ ds. i (meant_of g) (meant_in g h.0) ds)

  like_in : (m : Meant) → In P m → (ds : List Plain) → In P (like m ds)
  like_in (one d) h ds = tt
  like_in (stream es) h ds = tt
  like_in (selection n k es) h ds = tt
  like_in (row n k d) h ds = tt
  like_in (table n) h ds = tt
  like_in (grouped gs) h ds = tt
  like_in (database name) h ds = tt
  like_in callable h ds = tt

  alike_in : (m : Meant) → In P m → (ds : List Plain) → In P (alike m ds)
  alike_in (one d) h ds = tt
  alike_in (stream es) h ds = tt
  alike_in (selection n k es) h ds = h
  alike_in (row n k d) h ds = tt
  alike_in (table n) h ds = h
  alike_in (grouped gs) h ds = tt
  alike_in (database name) h ds = tt
  alike_in callable h ds = tt

  in_order_in : (m : Meant) → In P m → (ds : List Plain) → In P (in_order m ds)
  in_order_in (one d) h ds = tt
  in_order_in (stream es) h ds = tt
  in_order_in (selection n k es) h ds = h
  in_order_in (row n k d) h ds = tt
  in_order_in (table n) h ds = h
  in_order_in (grouped gs) h ds = tt
  in_order_in (database name) h ds = tt
  in_order_in callable h ds = tt

  -- ---- scalars, coercions
  funcall_in : KeepsRule funcall
  funcall_in calls [] opts k h = tt
  funcall_in calls (f ∷ gs) opts k h = then_each (In P) (as_data gs) (λ ds. answer calls f ds) (λ ds. answer_in calls k f h.0 ds)

  coerced_same : (m : Meant) → In P m → (to : Bytes) → coerced w m to ≡ coerced v m to
  coerced_same (table n) h to = rw (agree.views n h) refl
  coerced_same m h to = refl

  coerce_same : SameRule coerce_to
  coerce_same calls (g ∷ t ∷ []) opts k h = λ i. as_text t >>= λ to. coerced_same (meant_of g) (meant_in g h.0) to i
  coerce_same calls gs opts k h = refl

  -- ---- fields
  nth_same : SameRule nth_rule
  nth_same calls (s ∷ n ∷ []) opts k h = first_same _ _ _ (given_sequence_same s h.0)
  nth_same calls gs opts k h = refl

  get_field_same : SameRule get_field_rule
  get_field_same calls (g ∷ t ∷ []) opts k h = first_same _ _ _ (field_subject_same g h.0)
  get_field_same calls gs opts k h = refl

  field_in : (m : Meant) → In P m → (name : Bytes) (s : Subject) → Each (In P) (field_of m name s)
  field_in m h name (object_alone d) = then_each (In P) (get_field name d) (λ x. Ok (one x)) (λ x. tt)
  field_in m h name (elements ds) = then_each (In P) (get_fields name ds) (λ x. Ok (like m x)) (λ es. like_in m h es)

  get_field_in : KeepsRule get_field_rule
  get_field_in calls (g ∷ t ∷ []) opts k h = then_each (In P) (field_subject w g) _ (λ s. then_each (In P) (as_text t) _ (λ name. field_in (meant_of g) (meant_in g h.0) name s))
  get_field_in calls [] opts k h = tt
  get_field_in calls (g ∷ []) opts k h = tt
  get_field_in calls (g ∷ t ∷ u ∷ gs) opts k h = tt

  bracket_by_same : (d : Option Plain) (calls : Calls) (g t : Given) (opts : Options) → CallsIn P calls → InAll P (g ∷ t ∷ []) → bracket_by d w calls (g ∷ t ∷ []) opts ≡ bracket_by d v calls (g ∷ t ∷ []) opts
  bracket_by_same (Some (number n)) calls g t opts k h = giving_same one nth_rule nth_same calls (g ∷ t ∷ []) opts k h
  bracket_by_same (Some (text s)) calls g t opts k h = get_field_same calls (g ∷ t ∷ []) opts k h
  bracket_by_same d calls g t opts k h = refl

  bracket_same : SameRule bracket
  bracket_same calls (g ∷ t ∷ []) opts k h = bracket_by_same (seen t) calls g t opts k h
  bracket_same calls gs opts k h = refl

  bracket_by_in : (d : Option Plain) (calls : Calls) (g t : Given) (opts : Options) → CallsIn P calls → InAll P (g ∷ t ∷ []) → Each (In P) (bracket_by d w calls (g ∷ t ∷ []) opts)
  bracket_by_in (Some (number n)) calls g t opts k h = giving_in one nth_rule (λ x. tt) calls (g ∷ t ∷ []) opts k h
  bracket_by_in (Some (text s)) calls g t opts k h = get_field_in calls (g ∷ t ∷ []) opts k h
  bracket_by_in d calls g t opts k h = tt

  bracket_in : KeepsRule bracket
  bracket_in calls (g ∷ t ∷ []) opts k h = bracket_by_in (seen t) calls g t opts k h
  bracket_in calls [] opts k h = tt
  bracket_in calls (g ∷ []) opts k h = tt
  bracket_in calls (g ∷ t ∷ u ∷ gs) opts k h = tt

  has_fields_same : SameRule has_fields_rule
  has_fields_same calls (g ∷ gs) opts k h = first_same _ _ _ (field_subject_same g h.0)
  has_fields_same calls [] opts k h = refl

  has_fields_of_in : (m : Meant) → In P m → (ps : List Plain) (s : Subject) → Each (In P) (has_fields_of m ps s)
  has_fields_of_in m h ps (object_alone d) = then_each (In P) (has_all ps d) (λ b. Ok (one (boolean b))) (λ b. tt)
  has_fields_of_in m h ps (elements ds) = then_each (In P) (having ps ds) (λ x. Ok (like m x)) (λ es. like_in m h es)

  has_fields_in : KeepsRule has_fields_rule
  has_fields_in calls (g ∷ gs) opts k h = then_each (In P) (field_subject w g) _ (λ s. then_each (In P) (patterns gs) _ (λ ps. has_fields_of_in (meant_of g) (meant_in g h.0) ps s))
  has_fields_in calls [] opts k h = tt

  with_fields_same : SameRule with_fields
  with_fields_same calls (g ∷ gs) opts k h = first_same _ _ _ (given_sequence_same g h.0)
  with_fields_same calls [] opts k h = refl

  on_subject_in : (f : Plain → Answer Plain) (m : Meant) → In P m → (s : Subject) → Each (In P) (on_subject f m s)
  on_subject_in f m h (object_alone d) = then_each (In P) (f d) (λ x. Ok (one x)) (λ x. tt)
  on_subject_in f m h (elements ds) = then_each (In P) (on_each f ds) (λ x. Ok (like m x)) (λ es. like_in m h es)

  by_patterns_same : (f : List Plain → Plain → Plain) → SameRule (by_patterns f)
  by_patterns_same f calls (g ∷ gs) opts k h = first_same _ _ _ (given_subject_same g h.0)
  by_patterns_same f calls [] opts k h = refl

  by_patterns_in : (f : List Plain → Plain → Plain) → KeepsRule (by_patterns f)
  by_patterns_in f calls (g ∷ gs) opts k h = then_each (In P) (subject_of w (meant_of g)) _ (λ s. then_each (In P) (patterns gs) _ (λ ps. on_subject_in (λ d. Ok (f ps d)) (meant_of g) (meant_in g h.0) s))
  by_patterns_in f calls [] opts k h = tt

  merge_same : SameRule merge_rule
  merge_same calls (g ∷ gs) opts k h = first_same _ _ _ (given_subject_same g h.0)
  merge_same calls [] opts k h = refl

  merge_in : KeepsRule merge_rule
  merge_in calls (g ∷ gs) opts k h = then_each (In P) (subject_of w (meant_of g)) _ (λ s. on_subject_in _ (meant_of g) (meant_in g h.0) s)
  merge_in calls [] opts k h = tt

  -- ---- sequences
  reduce_same : SameRule reduce_rule
  reduce_same calls (s ∷ f ∷ []) opts k h = first_same _ _ _ (given_sequence_same s h.0)
  reduce_same calls gs opts k h = refl

  map_same : SameRule map_rule
  map_same calls (s ∷ f ∷ []) opts k h = first_same _ _ _ (given_sequence_same s h.0)
  map_same calls gs opts k h = refl

  concat_map_same : SameRule concat_map
  concat_map_same calls (s ∷ f ∷ []) opts k h = λ i. given_sequence_same s h.0 i >>= λ ds. concat_all (λ d. items_same calls k f h.1.0 d i) ds
  concat_map_same calls gs opts k h = refl

  filter_same : SameRule filter_rule
  filter_same calls (s ∷ f ∷ []) opts k h = first_same _ _ _ (given_sequence_same s h.0)
  filter_same calls gs opts k h = refl

  count_datum_same : (m : Meant) → In P m → (d : Option Plain) → count_datum w m d ≡ count_datum v m d
  count_datum_same m h (Some (text s)) = refl
  count_datum_same m h (Some (binary s)) = refl
  count_datum_same m h (Some (object ms)) = rw (sequence_same m h) refl
  count_datum_same m h d = first_same _ _ _ (sequence_same m h)

  count_same : SameRule count_rule
  count_same calls (s ∷ []) opts k h = first_same _ _ (λ x. Ok (counted_as x)) (count_datum_same (meant_of s) (meant_in s h.0) (datum_in (meant_of s)))
  count_same calls (s ∷ f ∷ []) opts k h = first_same _ _ _ (given_sequence_same s h.0)
  count_same calls gs opts k h = refl

  all_sequences_same : (gs : List Given) → InAll P gs → each (as_sequence w) gs ≡ each (as_sequence v) gs
  all_sequences_same [] h = refl
  all_sequences_same (g ∷ gs) h = λ i. given_sequence_same g h.0 i >>= λ ds. all_sequences_same gs h.1 i >>= λ dss. Ok (ds ∷ dss)

  union_same : SameRule union_rule
  union_same calls gs opts k h = first_same _ _ _ (all_sequences_same gs h)

  union_in : KeepsRule union_rule
  union_in calls gs opts k h = then_each (In P) (each (as_sequence w) gs) _ (λ dss. if_each (In P) (are_arrays gs) _ _ tt tt)

  slice_same : SameRule slice_rule
  slice_same calls (s ∷ n ∷ gs) opts k h = first_same _ _ _ (given_sequence_same s h.0)
  slice_same calls [] opts k h = refl
  slice_same calls (s ∷ []) opts k h = refl

  counted_part_same : (f : ℕ → List Plain → List Plain) → SameRule (counted_part f)
  counted_part_same f calls (s ∷ n ∷ []) opts k h = first_same _ _ _ (given_sequence_same s h.0)
  counted_part_same f calls gs opts k h = refl

  is_empty_same : SameRule is_empty
  is_empty_same calls (s ∷ []) opts k h = first_same _ _ _ (given_sequence_same s h.0)
  is_empty_same calls gs opts k h = refl

  offsets_same : SameRule offsets_of
  offsets_same calls (s ∷ f ∷ []) opts k h = first_same _ _ _ (given_sequence_same s h.0)
  offsets_same calls gs opts k h = refl

  contains_same : SameRule contains
  contains_same calls (s ∷ fs) opts k h = first_same _ _ _ (given_sequence_same s h.0)
  contains_same calls [] opts k h = refl

  -- ---- orders
  bounded_source_same : (n : ℕ) → P n → (kind : Kind) (name : Bytes) → bounded_source w n kind name ≡ bounded_source v n kind name
  bounded_source_same n h (slice_between b) name = rw (agree.views n h) refl
  bounded_source_same n h kind name = refl

  index_source_same : (name : Bytes) (m : Meant) → In P m → index_source w name m ≡ index_source v name m
  index_source_same name (table n) h = first_same _ _ _ (agree.views n h)
  index_source_same name (selection n kind ds) h = bounded_source_same n h kind name
  index_source_same name m h = refl

  table_source_same : (name : Bytes) (m : Meant) → In P m → table_source w name m ≡ table_source v name m
  table_source_same name (table n) h = first_same _ _ _ (agree.views n h)
  table_source_same name m h = refl

  bounded_source_in : (n : ℕ) → P n → (kind : Kind) (name : Bytes) → Each (λ s. P s.0) (bounded_source w n kind name)
  bounded_source_in n h (slice_between b) name = if_each (Each (λ s. P s.0)) (same_text b.index name) _ _ (then_each (λ s. P s.0) (view_at w n) _ (λ t. then_each (λ s. P s.0) (entries_named t name) _ (λ es. h))) tt
  bounded_source_in n h slice_in_order name = tt
  bounded_source_in n h some_rows name = tt
  bounded_source_in n h rows_in_array name = tt

  index_source_in : (name : Bytes) (m : Meant) → In P m → Each (λ s. P s.0) (index_source w name m)
  index_source_in name (table n) h = then_each (λ s. P s.0) (view_at w n) _ (λ t. then_each (λ s. P s.0) (entries_named t name) _ (λ es. h))
  index_source_in name (selection n kind ds) h = bounded_source_in n h kind name
  index_source_in name (one d) h = tt
  index_source_in name (stream ds) h = tt
  index_source_in name (row n k d) h = tt
  index_source_in name (grouped gs) h = tt
  index_source_in name (database x) h = tt
  index_source_in name callable h = tt

  order_in_same : (calls : Calls) (m : Meant) → In P m → (ks : List Given) (ds : List Plain) (i : Option (Bytes × Bool)) → order_in w calls m ks ds i ≡ order_in v calls m ks ds i
  order_in_same calls m h ks ds None = refl
  order_in_same calls m h ks ds (Some i) = first_same _ _ _ (index_source_same i.0 m h)

  order_by_same : SameRule order_by
  order_by_same calls (s ∷ ks) opts k h = λ i. given_sequence_same s h.0 i >>= λ ds. index_given (find (codes "index") opts) >>= λ x. order_in_same calls (meant_of s) (meant_in s h.0) ks ds x i
  order_by_same calls [] opts k h = refl

  order_keys_in : (calls : Calls) (m : Meant) → In P m → (ks : List Given) (ds : List Plain) → Each (In P) (order_by_keys calls m ks ds)
  order_keys_in calls m h [] ds = tt
  order_keys_in calls m h (k ∷ ks) ds = then_each (In P) (order_all (key_at calls (k ∷ ks)) (map is_down (k ∷ ks)) ds) (λ x. Ok (in_order m x)) (λ es. in_order_in m h es)

  order_index_in : (calls : Calls) (n : ℕ) → P n → (down : Bool) (ks : List Given) (es : List Entry) → Each (In P) (order_by_index calls n down ks es)
  order_index_in calls n h down [] es = h
  order_index_in calls n h down (k ∷ ks) es = then_each (In P) (each (entry_keyed calls (k ∷ ks)) es) (λ x. Ok (selection n some_rows (values_of (sorted (keyed_order (down ∷ map is_down (k ∷ ks))) x)))) (λ rs. h)

  order_in_in : (calls : Calls) (m : Meant) → In P m → (ks : List Given) (ds : List Plain) (i : Option (Bytes × Bool)) → Each (In P) (order_in w calls m ks ds i)
  order_in_in calls m h ks ds None = order_keys_in calls m h ks ds
  order_in_in calls m h ks ds (Some i) = then_each_if (λ s. P s.0) (In P) (index_source w i.0 m) _ (index_source_in i.0 m h) (λ s p. order_index_in calls s.0 p i.1 ks _)

  order_by_in : KeepsRule order_by
  order_by_in calls (s ∷ ks) opts k h = then_each (In P) (as_sequence w s) _ (λ ds. then_each (In P) (index_given (find (codes "index") opts)) _ (λ x. order_in_in calls (meant_of s) (meant_in s h.0) ks ds x))
  order_by_in calls [] opts k h = tt

  distinct_in_same : (m : Meant) → In P m → (ds : List Plain) (i : Option Bytes) → distinct_in w m ds i ≡ distinct_in v m ds i
  distinct_in_same m h ds None = refl
  distinct_in_same m h ds (Some name) = first_same _ _ _ (table_source_same name m h)

  distinct_same : SameRule distinct_rule
  distinct_same calls (s ∷ []) opts k h = λ i. given_sequence_same s h.0 i >>= λ ds. text_option (codes "index") opts >>= λ x. distinct_in_same (meant_of s) (meant_in s h.0) ds x i
  distinct_same calls gs opts k h = refl

  distinct_values_in : (m : Meant) → In P m → (ds : List Plain) (i : Option Bytes) → Each (In P) (distinct_in w m ds i)
  distinct_values_in m h ds None = like_in m h _
  distinct_values_in m h ds (Some name) = then_each (In P) (table_source w name m) _ (λ es. tt)

  distinct_in_in : KeepsRule distinct_rule
  distinct_in_in calls (s ∷ []) opts k h = then_each (In P) (as_sequence w s) _ (λ ds. then_each (In P) (text_option (codes "index") opts) _ (λ x. distinct_values_in (meant_of s) (meant_in s h.0) ds x))
  distinct_in_in calls [] opts k h = tt
  distinct_in_in calls (s ∷ t ∷ gs) opts k h = tt

  -- ---- groups and joins
  group_in_same : (calls : Calls) (m : Meant) → In P m → (ks : List Given) (ds : List Plain) (i : Option Bytes) → group_in w calls m ks ds i ≡ group_in v calls m ks ds i
  group_in_same calls m h [] ds None = refl
  group_in_same calls m h [] ds (Some name) = first_same _ _ _ (table_source_same name m h)
  group_in_same calls m h (k ∷ ks) ds i = refl

  group_same : SameRule group_rule
  group_same calls (s ∷ ks) opts k h = λ i. given_sequence_same s h.0 i >>= λ ds. text_option (codes "index") opts >>= λ x. group_in_same calls (meant_of s) (meant_in s h.0) ks ds x i
  group_same calls [] opts k h = refl

  total_same : (o : Total) → SameRule (total_rule o)
  total_same o calls (s ∷ []) opts k h = first_same _ _ _ (given_sequence_same s h.0)
  total_same o calls (s ∷ f ∷ []) opts k h = first_same _ _ _ (given_sequence_same s h.0)
  total_same o calls [] opts k h = refl
  total_same o calls (s ∷ f ∷ g ∷ gs) opts k h = refl

  join_same : (outer : Bool) → SameRule (join_rule outer)
  join_same outer calls (s ∷ t ∷ f ∷ []) opts k h = both_same (λ ds. Unit {0}) _ _ _ _ (given_sequence_same s h.0) (everything _) (λ ls p. first_same _ _ _ (given_sequence_same t h.1.0))
  join_same outer calls gs opts k h = refl

  eq_join_same : SameRule eq_join
  eq_join_same calls (s ∷ f ∷ t ∷ []) opts k h = both_same (λ ds. Unit {0}) _ _ _ _ (given_sequence_same s h.0) (everything _) (λ ls p. first_same _ _ _ (given_table_same t h.1.1.0))
  eq_join_same calls gs opts k h = refl

  zip_same : SameRule zip_rule
  zip_same calls (s ∷ []) opts k h = first_same _ _ _ (given_sequence_same s h.0)
  zip_same calls gs opts k h = refl

  -- ---- tables
  get_same : SameRule get_rule
  get_same calls (t ∷ f ∷ []) opts k h = first_same _ _ _ (given_table_same t h.0)
  get_same calls gs opts k h = refl

  get_in : KeepsRule get_rule
  get_in calls (t ∷ f ∷ []) opts k h = then_each (In P) (as_table w t) _ (λ x. then_each (In P) (as_datum f) _ (λ d. then_each (In P) (key_if is_key d) (λ x'. Ok (row x.0 x' (find_by order {V = Plain} x' x.1.documents))) (λ key. tt)))
  get_in calls [] opts k h = tt
  get_in calls (t ∷ []) opts k h = tt
  get_in calls (t ∷ f ∷ g ∷ gs) opts k h = tt

  get_all_same : SameRule get_all_rule
  get_all_same calls (t ∷ fs) opts k h = first_same _ _ _ (given_table_same t h.0)
  get_all_same calls [] opts k h = refl

  get_all_in : KeepsRule get_all_rule
  get_all_in calls (t ∷ fs) opts k h = then_each_if (λ x. P x.0) (In P) (as_table w t) _ (table_in (meant_of t) (meant_in t h.0))
      (λ x p. then_each (In P) (as_data fs) _ (λ ds. then_each (In P) (each (key_if is_storable) ds) _ (λ keys. then_each (In P) (text_option (codes "index") opts) _ (λ i.
      then_each (In P) (entries_named x.1 (index_or_key x.1 i)) _ (λ es. p)))))
  get_all_in calls [] opts k h = tt

  between_same : SameRule between_rule
  between_same calls (t ∷ l ∷ u ∷ []) opts k h = first_same _ _ _ (given_table_same t h.0)
  between_same calls gs opts k h = refl

  between_in : KeepsRule between_rule
  between_in calls (t ∷ l ∷ u ∷ []) opts k h = then_each_if (λ x. P x.0) (In P) (as_table w t) _ (table_in (meant_of t) (meant_in t h.0))
      (λ x p. then_each (In P) (as_datum l) _ (λ d. then_each (In P) (as_datum u) _ (λ e. then_each (In P) (key_if may_bound d) _ (λ bottom. then_each (In P) (key_if may_bound e) _ (λ top.
      then_each (In P) (text_option (codes "index") opts) _ (λ i. then_each (In P) (left_is_open opts) _ (λ lo. then_each (In P) (right_is_open opts) _ (λ ho. then_each (In P) (entries_named x.1 (index_or_key x.1 i)) _ (λ es. p)))))))))
  between_in calls [] opts k h = tt
  between_in calls (t ∷ []) opts k h = tt
  between_in calls (t ∷ l ∷ []) opts k h = tt
  between_in calls (t ∷ l ∷ u ∷ g ∷ gs) opts k h = tt

  index_list_same : SameRule index_list_rule
  index_list_same calls (t ∷ []) opts k h = first_same _ _ _ (given_table_same t h.0)
  index_list_same calls gs opts k h = refl

  index_statuses_same : SameRule index_statuses
  index_statuses_same calls (t ∷ gs) opts k h = first_same _ _ _ (given_table_same t h.0)
  index_statuses_same calls [] opts k h = refl

  named_in : (d : Option Plain) → Each (In P) (named_database d)
  named_in (Some (text s)) = tt
  named_in d = tt

  db_in : KeepsRule db_rule
  db_in calls (g ∷ []) opts k h = named_in _
  db_in calls [] opts k h = tt
  db_in calls (g ∷ t ∷ gs) opts k h = tt

  info_same : (m : Meant) → In P m → info_of w m ≡ info_of v m
  info_same (table n) h = first_same _ _ _ (agree.views n h)
  info_same (database name) h = rw (agree.databases) refl
  info_same m h = refl

  config_same : (m : Meant) → In P m → config_of w m ≡ config_of v m
  config_same (table n) h = first_same _ _ _ (agree.views n h)
  config_same (database name) h = rw (agree.databases) refl
  config_same m h = refl

  told_same : (f : World → Meant → Answer Plain) → ((m : Meant) → In P m → f w m ≡ f v m) → SameRule (told f)
  told_same f s calls (g ∷ []) opts k h = s (meant_of g) (meant_in g h.0)
  told_same f s calls gs opts k h = refl

  status_same : SameRule status_rule
  status_same calls (t ∷ []) opts k h = first_same _ _ _ (given_table_same t h.0)
  status_same calls gs opts k h = refl

  -- ---- every operator

  pub rule_same : (o : Op) → SameRule (rule_of o)
  rule_same op.CoerceTo = giving_same one coerce_to coerce_same
  rule_same op.Slice = by_first_same alike slice_rule slice_same
  rule_same op.GetField = get_field_same
  rule_same op.Bracket = bracket_same
  rule_same op.HasFields = has_fields_same
  rule_same op.Pluck = by_patterns_same pluck
  rule_same op.Without = by_patterns_same without
  rule_same op.WithFields = by_first_same like with_fields with_fields_same
  rule_same op.Merge = merge_same
  rule_same op.Reduce = giving_same one reduce_rule reduce_same
  rule_same op.Map = by_first_same like map_rule map_same
  rule_same op.Filter = by_first_same alike filter_rule filter_same
  rule_same op.ConcatMap = by_first_same like concat_map concat_map_same
  rule_same op.OrderBy = order_by_same
  rule_same op.Distinct = distinct_same
  rule_same op.Count = giving_same one count_rule count_same
  rule_same op.Union = union_same
  rule_same op.Nth = giving_same one nth_rule nth_same
  rule_same op.Skip = by_first_same alike (counted_part drop) (counted_part_same drop)
  rule_same op.Limit = by_first_same alike (counted_part take) (counted_part_same take)
  rule_same op.IsEmpty = giving_same one is_empty is_empty_same
  rule_same op.OffsetsOf = by_first_same like offsets_of offsets_same
  rule_same op.Contains = giving_same one contains contains_same
  rule_same op.InnerJoin = by_first_same like (join_rule false) (join_same false)
  rule_same op.OuterJoin = by_first_same like (join_rule true) (join_same true)
  rule_same op.EqJoin = by_first_same like eq_join eq_join_same
  rule_same op.Zip = by_first_same like zip_rule zip_same
  rule_same op.Group = giving_same grouped group_rule group_same
  rule_same op.Sum = giving_same one (total_rule total.Sum) (total_same total.Sum)
  rule_same op.Avg = giving_same one (total_rule total.Avg) (total_same total.Avg)
  rule_same op.Min = giving_same one (total_rule total.Min) (total_same total.Min)
  rule_same op.Max = giving_same one (total_rule total.Max) (total_same total.Max)
  rule_same op.Get = get_same
  rule_same op.GetAll = get_all_same
  rule_same op.Between = between_same
  rule_same op.IndexList = giving_same (λ ds. one (array_of ds)) index_list_rule index_list_same
  rule_same op.IndexStatus = giving_same (λ ds. one (array_of ds)) index_statuses index_statuses_same
  rule_same op.IndexWait = giving_same (λ ds. one (array_of ds)) index_statuses index_statuses_same
  rule_same op.Info = giving_same one (told info_of) (told_same info_of info_same)
  rule_same op.Config = giving_same one (told config_of) (told_same config_of config_same)
  rule_same op.Status = giving_same one status_rule status_same
  rule_same o = λ calls gs opts k h. refl

  pub rule_in : (o : Op) → KeepsRule (rule_of o)
  rule_in op.MakeArray = giving_in (λ ds. one (array_of ds)) make_array (λ x. tt)
  rule_in op.Error = giving_in one raise (λ x. tt)
  rule_in op.Eq = giving_in one (comparison relation.Eq) (λ x. tt)
  rule_in op.Ne = giving_in one (comparison relation.Ne) (λ x. tt)
  rule_in op.Lt = giving_in one (comparison relation.Lt) (λ x. tt)
  rule_in op.Le = giving_in one (comparison relation.Le) (λ x. tt)
  rule_in op.Gt = giving_in one (comparison relation.Gt) (λ x. tt)
  rule_in op.Ge = giving_in one (comparison relation.Ge) (λ x. tt)
  rule_in op.Not = giving_in one negation (λ x. tt)
  rule_in op.Add = giving_in one (arithmetic arith.Add) (λ x. tt)
  rule_in op.Sub = giving_in one (arithmetic arith.Sub) (λ x. tt)
  rule_in op.Mul = giving_in one (arithmetic arith.Mul) (λ x. tt)
  rule_in op.Div = giving_in one (arithmetic arith.Div) (λ x. tt)
  rule_in op.Mod = giving_in one (arithmetic arith.Mod) (λ x. tt)
  rule_in op.CoerceTo = giving_in one coerce_to (λ x. tt)
  rule_in op.TypeOf = giving_in one type_of (λ x. tt)
  rule_in op.Funcall = funcall_in
  rule_in op.Literal = giving_in one literal (λ x. tt)
  rule_in op.Minval = giving_in one (constant low) (λ x. tt)
  rule_in op.Maxval = giving_in one (constant high) (λ x. tt)
  rule_in op.Append = giving_in (λ ds. one (array_of ds)) (end_edit edit.Append) (λ x. tt)
  rule_in op.Prepend = giving_in (λ ds. one (array_of ds)) (end_edit edit.Prepend) (λ x. tt)
  rule_in op.Slice = by_first_in alike slice_rule alike_in
  rule_in op.GetField = get_field_in
  rule_in op.Bracket = bracket_in
  rule_in op.HasFields = has_fields_in
  rule_in op.Pluck = by_patterns_in pluck
  rule_in op.Without = by_patterns_in without
  rule_in op.WithFields = by_first_in like with_fields like_in
  rule_in op.Merge = merge_in
  rule_in op.InsertAt = giving_in (λ ds. one (array_of ds)) (place_edit edit.InsertAt) (λ x. tt)
  rule_in op.DeleteAt = giving_in (λ ds. one (array_of ds)) delete_at (λ x. tt)
  rule_in op.ChangeAt = giving_in (λ ds. one (array_of ds)) (place_edit edit.ChangeAt) (λ x. tt)
  rule_in op.SpliceAt = giving_in (λ ds. one (array_of ds)) splice_at (λ x. tt)
  rule_in op.SetInsert = giving_in (λ ds. one (array_of ds)) set_insert (λ x. tt)
  rule_in op.SetUnion = giving_in (λ ds. one (array_of ds)) (set_operation set.SetUnion) (λ x. tt)
  rule_in op.SetIntersection = giving_in (λ ds. one (array_of ds)) (set_operation set.SetIntersection) (λ x. tt)
  rule_in op.SetDifference = giving_in (λ ds. one (array_of ds)) (set_operation set.SetDifference) (λ x. tt)
  rule_in op.Difference = giving_in (λ ds. one (array_of ds)) (set_operation set.Difference) (λ x. tt)
  rule_in op.Keys = giving_in one keys_rule (λ x. tt)
  rule_in op.Values = giving_in one values_rule (λ x. tt)
  rule_in op.Object = giving_in one object_rule (λ x. tt)
  rule_in op.Reduce = giving_in one reduce_rule (λ x. tt)
  rule_in op.Map = by_first_in like map_rule like_in
  rule_in op.Filter = by_first_in alike filter_rule alike_in
  rule_in op.ConcatMap = by_first_in like concat_map like_in
  rule_in op.OrderBy = order_by_in
  rule_in op.Distinct = distinct_in_in
  rule_in op.Count = giving_in one count_rule (λ x. tt)
  rule_in op.Union = union_in
  rule_in op.Nth = giving_in one nth_rule (λ x. tt)
  rule_in op.Skip = by_first_in alike (counted_part drop) alike_in
  rule_in op.Limit = by_first_in alike (counted_part take) alike_in
  rule_in op.IsEmpty = giving_in one is_empty (λ x. tt)
  rule_in op.OffsetsOf = by_first_in like offsets_of like_in
  rule_in op.Contains = giving_in one contains (λ x. tt)
  rule_in op.Range = giving_in stream range_rule (λ x. tt)
  rule_in op.InnerJoin = by_first_in like (join_rule false) like_in
  rule_in op.OuterJoin = by_first_in like (join_rule true) like_in
  rule_in op.EqJoin = by_first_in like eq_join like_in
  rule_in op.Zip = by_first_in like zip_rule like_in
  rule_in op.Group = giving_in grouped group_rule (λ x. tt)
  rule_in op.Ungroup = giving_in (λ ds. one (array_of ds)) ungroup_rule (λ x. tt)
  rule_in op.Sum = giving_in one (total_rule total.Sum) (λ x. tt)
  rule_in op.Avg = giving_in one (total_rule total.Avg) (λ x. tt)
  rule_in op.Min = giving_in one (total_rule total.Min) (λ x. tt)
  rule_in op.Max = giving_in one (total_rule total.Max) (λ x. tt)
  rule_in op.Db = db_in
  rule_in op.Get = get_in
  rule_in op.GetAll = get_all_in
  rule_in op.Between = between_in
  rule_in op.IndexList = giving_in (λ ds. one (array_of ds)) index_list_rule (λ x. tt)
  rule_in op.IndexStatus = giving_in (λ ds. one (array_of ds)) index_statuses (λ x. tt)
  rule_in op.IndexWait = giving_in (λ ds. one (array_of ds)) index_statuses (λ x. tt)
  rule_in op.Info = giving_in one (told info_of) (λ x. tt)
  rule_in op.Config = giving_in one (told config_of) (λ x. tt)
  rule_in op.Status = giving_in one status_rule (λ x. tt)
  rule_in op.EpochTime = giving_in one epoch_time (λ x. tt)
  rule_in op.ToEpochTime = giving_in one to_epoch_time (λ x. tt)
  rule_in o = λ calls gs opts k h. tt
