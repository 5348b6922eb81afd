-- A shape gives the same rows in two worlds whose tables have the same documents, key field and entries, whatever else is there.
use Rattle.std.proofs.Common.{◌≡◌, ℕ, zero, suc, nat_eq, List, [], ◌∷◌, length, Bool, true, false, if◌then◌else◌, Option, Ok, Err, refl, sym, ap, ◌∙◌, subst, inl, inr, arith}
use Rattle.std.specs.Prelude.{nat_lt, codes}
use Rattle.std.specs.Option.{unwrap_or}
use Rattle.reql_datum.specs.Answer.{Answer, ◌>>=◌, query_logic, non_existence, resource_limit, op_failed, user, no_text}
use Rattle.reql_datum.specs.Kinds.{is_storable}
use Rattle.reql_datum.specs.Plain.{Plain}
use Rattle.reql_rules.specs.Faults.{misplaced, over_array}
use Rattle.reql_rules.specs.Lists.{Bytes, each}
use Rattle.reql_rules.specs.Patterns.{pluck, without}
use Rattle.reql_rules.specs.Sizes.{shallow}
use Rattle.reql_term.specs.Form.{Form, literal, several, keyed, variable, implicit, function, slot, operation, Forms, no_forms, form, NamedForms}
use Rattle.reql_term.specs.Table.{way_of}
use Rattle.reql_term.specs.Views.{documents_in, all_of}
use Rattle.reql_term.specs.declared.op.Op.{Op}
use Rattle.reql_term.specs.declared.op.Op.TheVariants as op
use Rattle.reql_value_spec.specs.Depends.{Agree, AllName, FieldsName}
use Rattle.reql_value_spec.specs.Fields.{has_fields_rule, with_fields, by_patterns, merge_rule}
use Rattle.reql_value_spec.specs.Meaning.{value, settled, sense, sense_of, sense_by, is_fit, form_senses, named_senses, table_of}
use Rattle.reql_value_spec.specs.Meant.{Meant, one, stream, selection, row, table, grouped, database, callable, Kind, Bounds, bounded, slice_between, slice_in_order, some_rows, rows_in_array, Given, given, Calls, Options, Rule}
use Rattle.reql_value_spec.specs.Sense as senses
use Rattle.reql_value_spec.specs.Sense.{Sense, plain, func, sorter, raiser, argument, option, default_option, calls_of, call_of, Optional, taking}
use Rattle.reql_value_spec.specs.Sequenced.{like, alike, like_first, alike_first, sized, on_groups, by_groups}
use Rattle.reql_value_spec.specs.Sequences.{map_rule, filter_rule}
use Rattle.reql_value_spec.specs.Shapes.{is_stage, is_part, NoSlot, OnTable, IsShape, OnShape}
use Rattle.reql_value_spec.specs.Stages.{StageBy, staged_by, map_stage, filter_stage, pattern_stage, merge_stage, having_stage, with_fields_stage, IsStage}
use Rattle.reql_value_spec.specs.Table.{rule_of}
use Rattle.reql_value_spec.specs.Tables.{get_all_rule, between_rule, key_if, may_bound, index_or_key, entries_by}
use Rattle.reql_value_spec.specs.Wanted.{to_sequence, index_text, as_datum, as_data, left_is_open, right_is_open}
use Rattle.reql_value_spec.specs.World.{World, View, view_at, documents_of, entries_named}
use Rattle.reql_value_spec.proofs.Depends.{AllAlike, all_alike, fields_alike, arguments_alike, argument_alike, options_alike, option_alike, default_option_alike, calls_alike, nothing_bound}
use Rattle.reql_value_spec.proofs.Slots.{Each, then_each, then_each_if, if_each}
use Rattle.reql_value_spec.proofs.Stages.{go_by_element}
use Rattle.reql_table_spec.specs.Followed.{shape_index, first_index, index_in}
use Rattle.reql_table_spec.proofs.Closed.{same_ok, text_named}

equal : (a b : ℕ) → nat_eq a b ≡ true → a ≡ b
equal a b h = grind arith

module _ (w u : World) (agree : Agree NoSlot w u) (n : ℕ) (v x : View) (at_w : view_at w n ≡ Ok v) (at_u : view_at u n ≡ Ok x) (keys : v.key ≡ x.key) (rows : documents_of v ≡ documents_of x) where
  -- ---- rows: those of the table, a part of them, or a stream
  abbrev AreRows : Meant → Type 0
  AreRows (stream ds) = Unit {0}
  AreRows (selection k kind ds) = Unit {0}
  AreRows (table k) = k ≡ n
  AreRows (one d) = ⊥
  AreRows (row k key d) = ⊥
  AreRows (grouped gs) = ⊥
  AreRows (database name) = ⊥
  AreRows callable = ⊥

  table_rows : (k : ℕ) → k ≡ n → to_sequence w (table k) ≡ Ok (documents_of v)
  table_rows k e = subst (λ j. to_sequence w (table j) ≡ Ok (documents_of v)) (sym e) (rw at_w refl)

  table_rows_there : (k : ℕ) → k ≡ n → to_sequence u (table k) ≡ Ok (documents_of v)
  table_rows_there k e = subst (λ j. to_sequence u (table j) ≡ Ok (documents_of v)) (sym e) (rw at_u (ap (λ ds. Ok ds) (sym rows)))

  abbrev BothGive : Meant → Type 0
  BothGive m = (ds : List Plain) × (to_sequence w m ≡ Ok ds) × (to_sequence u m ≡ Ok ds) × ((f : Meant → Answer Meant) → on_groups f m ≡ f m)

  both_give : (m : Meant) → AreRows m → BothGive m
  both_give (stream ds) h = (ds, refl, refl, λ f. refl)
  both_give (selection k kind ds) h = (ds, refl, refl, λ f. refl)
  both_give (table k) h = (documents_of v, table_rows k h, table_rows_there k h, λ f. refl)
  both_give (one d) h = absurd h
  both_give (row k key d) h = absurd h
  both_give (grouped gs) h = absurd h
  both_give (database name) h = absurd h
  both_give callable h = absurd h

  pub rows_same : (m : Meant) → AreRows m → to_sequence w m ≡ to_sequence u m
  rows_same m h = let b = both_give m h in b.1 ∙ sym b.2

  sized_selection : (limit k : ℕ) (kind : Kind) (ds : List Plain) → Each AreRows (sized limit (selection k kind ds))
  sized_selection limit k rows_in_array ds = if_each (Each AreRows) (nat_lt limit (length ds)) (Err (over_array limit)) (Ok (selection k rows_in_array ds)) tt tt
  sized_selection limit k (slice_between b) ds = tt
  sized_selection limit k slice_in_order ds = tt
  sized_selection limit k some_rows ds = tt

  sized_stream : (limit : ℕ) (ds : List Plain) → Each AreRows (sized limit (stream ds))
  sized_stream limit ds = then_each AreRows (each shallow ds) (λ es. Ok (stream es)) (λ es. tt)

  -- what a stage makes of rows is rows
  abbrev MakesRows : (Meant → List Plain → Meant) → Type 0
  MakesRows make = (limit : ℕ) (m : Meant) → AreRows m → (ds : List Plain) → Each AreRows (sized limit (make m ds))

  like_makes : MakesRows like
  like_makes limit (stream es) h ds = sized_stream limit ds
  like_makes limit (selection k kind es) h ds = sized_stream limit ds
  like_makes limit (table k) h ds = sized_stream limit ds
  like_makes limit (one d) h ds = absurd h
  like_makes limit (row k key d) h ds = absurd h
  like_makes limit (grouped gs) h ds = absurd h
  like_makes limit (database name) h ds = absurd h
  like_makes limit callable h ds = absurd h

  alike_makes : MakesRows alike
  alike_makes limit (stream es) h ds = sized_stream limit ds
  alike_makes limit (selection k rows_in_array es) h ds = sized_selection limit k rows_in_array ds
  alike_makes limit (selection k (slice_between b) es) h ds = tt
  alike_makes limit (selection k slice_in_order es) h ds = tt
  alike_makes limit (selection k some_rows es) h ds = tt
  alike_makes limit (table k) h ds = tt
  alike_makes limit (one d) h ds = absurd h
  alike_makes limit (row k key d) h ds = absurd h
  alike_makes limit (grouped gs) h ds = absurd h
  alike_makes limit (database name) h ds = absurd h
  alike_makes limit callable h ds = absurd h

  -- ---- a rule over rows gives the same in both
  abbrev Ruled : Rule → Calls → List Given → Options → Meant → Type 0
  Ruled rule calls gs os m = (by_groups w.array_limit (λ hs. rule w calls hs os) (given m ∷ gs) ≡ by_groups w.array_limit (λ hs. rule u calls hs os) (given m ∷ gs))
      × Each AreRows (by_groups w.array_limit (λ hs. rule w calls hs os) (given m ∷ gs))

  stage_ruled : (make : Meant → List Plain → Meant) → MakesRows make → (rule : Rule) (stage : StageBy) → IsStage make rule stage → (calls : Calls) (gs : List Given) (os : Options) (m : Meant) → AreRows m → Ruled rule calls gs os m
  stage_ruled make makes rule stage stands calls gs os m h =
      let b = both_give m h in
      let here : (rule w calls (given m ∷ gs) os >>= sized w.array_limit) ≡ ((staged_by (stage calls gs os) b.0 >>= λ ds. Ok (make m ds)) >>= sized w.array_limit) = ap (λ a. a >>= sized w.array_limit) (stands w calls gs os m b.0 b.1) in
      let there : (rule u calls (given m ∷ gs) os >>= sized w.array_limit) ≡ ((staged_by (stage calls gs os) b.0 >>= λ ds. Ok (make m ds)) >>= sized w.array_limit) = ap (λ a. a >>= sized w.array_limit) (stands u calls gs os m b.0 b.2) in
      let once : on_groups (λ k. rule w calls (given k ∷ gs) os >>= sized w.array_limit) m ≡ (rule w calls (given m ∷ gs) os >>= sized w.array_limit) = b.3 (λ k. rule w calls (given k ∷ gs) os >>= sized w.array_limit) in
      let again : on_groups (λ k. rule u calls (given k ∷ gs) os >>= sized w.array_limit) m ≡ (rule u calls (given m ∷ gs) os >>= sized w.array_limit) = b.3 (λ k. rule u calls (given k ∷ gs) os >>= sized w.array_limit) in
      (once ∙ here ∙ sym there ∙ sym again, subst (Each AreRows) (sym (once ∙ here)) (made (staged_by (stage calls gs os) b.0))) where
        made : (a : Answer (List Plain)) → Each AreRows ((a >>= λ ds. Ok (make m ds)) >>= sized w.array_limit)
        made (Ok ds) = makes w.array_limit m h ds
        made (Err e) = tt

  -- ---- a rule over its arguments, where those after the first, the options and the functions are those of the other world
  abbrev whole : World → Rule → Answer (List Given) → Answer Options → Calls → Answer Meant → Answer Meant
  whole z rule others opts calls a = ((a >>= λ m. Ok (given m)) >>= λ g. others >>= λ gs. Ok (g ∷ gs)) >>= λ gs. opts >>= λ ps. by_groups w.array_limit (λ hs. rule z calls hs ps) gs

  abbrev Same : Answer Meant → Answer Meant → Type 0
  Same a b = (a ≡ b) × Each AreRows a

  whole_same : (rule : Rule) (others : Answer (List Given)) (opts : Answer Options) (calls : Calls) (a : Answer Meant) → ((gs : List Given) (ps : Options) (m : Meant) → opts ≡ Ok ps → a ≡ Ok m → Ruled rule calls gs ps m)
      → Same (whole w rule others opts calls a) (whole u rule others opts calls a)
  whole_same rule others opts calls (Err e) r = (refl, tt)
  whole_same rule (Err e) opts calls (Ok m) r = (refl, tt)
  whole_same rule (Ok gs) (Err e) calls (Ok m) r = (refl, tt)
  whole_same rule (Ok gs) (Ok ps) calls (Ok m) r = r gs ps m refl refl

  abbrev IsPlain : Sense → Type 0
  IsPlain (plain f) = Unit {0}
  IsPlain (func o f) = ⊥
  IsPlain (sorter down s) = ⊥
  IsPlain (raiser texted f) = ⊥

  argument_is : (s : Sense) → IsPlain s → (z : World) → argument 0 s z [] ≡ (senses.value s z [] >>= λ m. Ok (given m))
  argument_is (plain f) h z = refl
  argument_is (func o f) h z = absurd h
  argument_is (sorter down s) h z = absurd h
  argument_is (raiser texted f) h z = absurd h

  no_call : (s : Sense) → IsPlain s → (z : World) (ds : List Plain) → call_of s z [] ds ≡ Err misplaced
  no_call (plain f) h z ds = refl
  no_call (func o f) h z ds = absurd h
  no_call (sorter down s) h z ds = absurd h
  no_call (raiser texted f) h z ds = absurd h

  abbrev SameRows : Sense → Type 0
  SameRows s = IsPlain s × Same (senses.value s w []) (senses.value s u [])

  module _ (s : Sense) (is : IsPlain s) (ss : List Sense) (os : List (Bytes × Sense)) (opt : Optional) (all : AllAlike NoSlot w u agree [] [] ss) (opts_same : senses.options opt os w [] ≡ senses.options opt os u []) where
    abbrev others : Answer (List Given)
    others = senses.arguments argument 1 ss u []

    abbrev opts : Answer Options
    opts = senses.options opt os u []

    abbrev calls : Calls
    calls = calls_of (s ∷ ss) u []

    others_same : senses.arguments argument 1 ss w [] ≡ others
    others_same = (arguments_alike NoSlot w u agree [] [] argument (argument_alike NoSlot w u agree [] []) 1 ss all).0

    call_same : (j : ℕ) (ds : List Plain) → calls_of (s ∷ ss) w [] j ds ≡ calls j ds
    call_same zero ds = no_call s is w ds ∙ sym (no_call s is u ds)
    call_same (suc j) ds = (calls_alike NoSlot w u agree [] [] ss all j ds).0

    taken_here : (rule : Rule) → taking (senses.arguments argument 0) opt by_groups rule (s ∷ ss) os w [] ≡ whole w rule others opts calls (senses.value s w [])
    taken_here rule = λ i. (argument_is s is w i >>= λ g. others_same i >>= λ gs. Ok (g ∷ gs)) >>= λ gs. opts_same i >>= λ ps. by_groups w.array_limit (λ hs. rule w (λ j ds. call_same j ds i) hs ps) gs

    taken_there : (rule : Rule) → taking (senses.arguments argument 0) opt by_groups rule (s ∷ ss) os u [] ≡ whole u rule others opts calls (senses.value s u [])
    taken_there rule = λ i. (argument_is s is u i >>= λ g. others >>= λ gs. Ok (g ∷ gs)) >>= λ gs. opts >>= λ ps. by_groups (sym agree.limit i) (λ hs. rule u calls hs ps) gs

    taken_same : (rule : Rule) → senses.value s w [] ≡ senses.value s u [] → ((gs : List Given) (ps : Options) (m : Meant) → opts ≡ Ok ps → senses.value s w [] ≡ Ok m → Ruled rule calls gs ps m)
        → SameRows (plain (taking (senses.arguments argument 0) opt by_groups rule (s ∷ ss) os))
    taken_same rule same ruled =
        let t = whole_same rule others opts calls (senses.value s w []) ruled in
        (tt, (taken_here rule ∙ t.0 ∙ ap (whole u rule others opts calls) same ∙ sym (taken_there rule), subst (Each AreRows) (sym (taken_here rule)) t.1))

    each_at : (a : Answer Meant) (m : Meant) → a ≡ Ok m → Each AreRows a → AreRows m
    each_at a m is h = subst (Each AreRows) is h

    stage_taken : (make : Meant → List Plain → Meant) → MakesRows make → (rule : Rule) (stage : StageBy) → IsStage make rule stage → Same (senses.value s w []) (senses.value s u [])
        → SameRows (plain (taking (senses.arguments argument 0) opt by_groups rule (s ∷ ss) os))
    stage_taken make makes rule stage stands same = taken_same rule same.0 (λ gs ps m e is. stage_ruled make makes rule stage stands calls gs ps m (each_at (senses.value s w []) m is same.1))

  -- ---- operators
  if_fits : (b : Bool) (s : Sense) → SameRows s → SameRows (if b then s else plain (λ z vars. Err misplaced))
  if_fits true s h = h
  if_fits false s h = (tt, (refl, tt))

  fits : (o : Op) (ss : List Sense) (os : List (Bytes × Sense)) → SameRows (sense_by (way_of o) (rule_of o) ss os) → SameRows (sense_of o ss os)
  fits o ss os h = if_fits (is_fit o ss os) (sense_by (way_of o) (rule_of o) ss os) h

  stage_op : (o : Op) → is_stage o ≡ true → (s : Sense) → SameRows s → (ss : List Sense) (os : List (Bytes × Sense)) → AllAlike NoSlot w u agree [] [] ss → senses.options option os w [] ≡ senses.options option os u []
      → senses.options default_option os w [] ≡ senses.options default_option os u [] → SameRows (sense_of o (s ∷ ss) os)
  stage_op op.Map h s c ss os all g d = fits op.Map (s ∷ ss) os (stage_taken s c.0 ss os option all g like like_makes (like_first map_rule) map_stage go_by_element.maps c.1)
  stage_op op.Filter h s c ss os all g d = fits op.Filter (s ∷ ss) os (stage_taken s c.0 ss os default_option all d alike alike_makes (alike_first filter_rule) filter_stage go_by_element.filters c.1)
  stage_op op.Pluck h s c ss os all g d = fits op.Pluck (s ∷ ss) os (stage_taken s c.0 ss os option all g like like_makes (by_patterns pluck) (pattern_stage pluck) go_by_element.plucks c.1)
  stage_op op.Without h s c ss os all g d = fits op.Without (s ∷ ss) os (stage_taken s c.0 ss os option all g like like_makes (by_patterns without) (pattern_stage without) go_by_element.withouts c.1)
  stage_op op.Merge h s c ss os all g d = fits op.Merge (s ∷ ss) os (stage_taken s c.0 ss os option all g like like_makes merge_rule merge_stage go_by_element.merges c.1)
  stage_op op.HasFields h s c ss os all g d = fits op.HasFields (s ∷ ss) os (stage_taken s c.0 ss os option all g like like_makes has_fields_rule having_stage go_by_element.havings c.1)
  stage_op op.WithFields h s c ss os all g d = fits op.WithFields (s ∷ ss) os (stage_taken s c.0 ss os option all g like like_makes (like_first with_fields) with_fields_stage go_by_element.with_all c.1)
  stage_op o h s c ss os all g d = absurd (cc (h))

  alike_arguments : (fs : Forms) → AllName NoSlot [] fs → AllAlike NoSlot w u agree [] [] (form_senses fs)
  alike_arguments fs names = all_alike NoSlot w u agree fs [] names [] [] (nothing_bound [] [])

  alike_options : (ms : NamedForms) → FieldsName NoSlot [] ms → senses.options option (named_senses ms) w [] ≡ senses.options option (named_senses ms) u []
  alike_options ms fields = options_alike NoSlot w u agree [] [] option (option_alike NoSlot w u agree [] []) (named_senses ms) (fields_alike NoSlot w u agree ms [] fields [] [] (nothing_bound [] []))

  alike_defaults : (ms : NamedForms) → FieldsName NoSlot [] ms → senses.options default_option (named_senses ms) w [] ≡ senses.options default_option (named_senses ms) u []
  alike_defaults ms fields = options_alike NoSlot w u agree [] [] default_option (default_option_alike NoSlot w u agree [] []) (named_senses ms) (fields_alike NoSlot w u agree ms [] fields [] [] (nothing_bound [] []))

  -- ---- parts of the table, by the entries of the index that is named
  module _ (index : Option Bytes) (entries : entries_named v (unwrap_or index v.key) ≡ entries_named x (unwrap_or index x.key)) where
    abbrev IsPartSame : Rule → Type 0
    IsPartSame rule = (calls : Calls) (gs : List Given) (ps : Options) → index_text ps ≡ Ok index → Same (rule w calls (given (table n) ∷ gs) ps >>= sized w.array_limit) (rule u calls (given (table n) ∷ gs) ps >>= sized w.array_limit)

    index_key : unwrap_or index v.key ≡ unwrap_or index x.key
    index_key = ap (unwrap_or index) keys

    abbrev IsSlice : Meant → Type 0
    IsSlice (selection k kind ds) = Unit {0}
    IsSlice (stream ds) = ⊥
    IsSlice (table k) = ⊥
    IsSlice (one d) = ⊥
    IsSlice (row k key d) = ⊥
    IsSlice (grouped gs) = ⊥
    IsSlice (database name) = ⊥
    IsSlice callable = ⊥

    sized_slice : (m : Meant) → IsSlice m → Each AreRows (sized w.array_limit m)
    sized_slice (selection k kind ds) h = sized_selection w.array_limit k kind ds
    sized_slice (stream ds) h = absurd h
    sized_slice (table k) h = absurd h
    sized_slice (one d) h = absurd h
    sized_slice (row k key d) h = absurd h
    sized_slice (grouped gs) h = absurd h
    sized_slice (database name) h = absurd h
    sized_slice callable h = absurd h

    sized_rows_of : (a b : Answer Meant) → a ≡ b → Each IsSlice a → Same (a >>= sized w.array_limit) (b >>= sized w.array_limit)
    sized_rows_of a b e h = (ap (λ c. c >>= sized w.array_limit) e, then_each_if IsSlice AreRows a (sized w.array_limit) h sized_slice)

    -- BETWEEN's steps, the last first
    module _ (l h : Given) (ps : Options) where
      abbrev bounds_of : Plain → Plain → Option Bytes → Bool → Bool → Bounds
      bounds_of bottom top i lo ho = record { index = index_or_key v i; low = bottom; low_open = lo; high = top; high_open = ho }

      abbrev by_entries : Plain → Plain → Option Bytes → Bool → Bool → Answer Meant
      by_entries bottom top i lo ho = entries_by v i >>= λ es. Ok (selection n (slice_between (bounds_of bottom top i lo ho)) (documents_in (bounded (bounds_of bottom top i lo ho) es)))

      abbrev by_left : Plain → Plain → Option Bytes → Bool → Answer Meant
      by_left bottom top i lo = right_is_open ps >>= by_entries bottom top i lo

      abbrev by_index : Plain → Plain → Option Bytes → Answer Meant
      by_index bottom top i = left_is_open ps >>= by_left bottom top i

      abbrev by_bounds : Plain → Plain → Answer Meant
      by_bounds bottom top = index_text ps >>= by_index bottom top

      abbrev by_bottom : Plain → Plain → Answer Meant
      by_bottom e bottom = key_if may_bound e >>= by_bounds bottom

      abbrev by_both : Plain → Plain → Answer Meant
      by_both d e = key_if may_bound d >>= by_bottom e

      abbrev by_first : Plain → Answer Meant
      by_first d = as_datum h >>= by_both d

      slices : Each IsSlice (as_datum l >>= by_first)
      slices = then_each IsSlice (as_datum l) by_first (λ d. then_each IsSlice (as_datum h) (by_both d) (λ e. then_each IsSlice (key_if may_bound d) (by_bottom e) (λ bottom. then_each IsSlice (key_if may_bound e) (by_bounds bottom) (λ top.
          then_each IsSlice (index_text ps) (by_index bottom top) (λ i. then_each IsSlice (left_is_open ps) (by_left bottom top i) (λ lo. then_each IsSlice (right_is_open ps) (by_entries bottom top i lo) (λ ho.
          then_each IsSlice (entries_by v i) (λ es. Ok (selection n (slice_between (bounds_of bottom top i lo ho)) (documents_in (bounded (bounds_of bottom top i lo ho) es)))) (λ es. tt))))))))

      between_is : (calls : Calls) → between_rule w calls (given (table n) ∷ l ∷ h ∷ []) ps ≡ (as_datum l >>= by_first)
      between_is calls = rw at_w refl

    between_same : IsPartSame between_rule
    between_same calls (l ∷ h ∷ []) ps e = sized_rows_of (between_rule w calls (given (table n) ∷ l ∷ h ∷ []) ps) (between_rule u calls (given (table n) ∷ l ∷ h ∷ []) ps) (rw at_w (rw at_u (rw e (rw entries (rw index_key refl))))) (subst (Each IsSlice) (sym (between_is l h ps calls)) (slices l h ps))
    between_same calls [] ps e = (refl, tt)
    between_same calls (l ∷ []) ps e = (refl, tt)
    between_same calls (l ∷ h ∷ g ∷ gs) ps e = (refl, tt)

    -- GET_ALL's
    abbrev by_entries_of : List Plain → Option Bytes → Answer Meant
    by_entries_of keys i = entries_by v i >>= λ es. Ok (selection n some_rows (all_of keys es))

    abbrev by_keys : Options → List Plain → Answer Meant
    by_keys ps keys = index_text ps >>= by_entries_of keys

    abbrev by_data : Options → List Plain → Answer Meant
    by_data ps ds = each (key_if is_storable) ds >>= by_keys ps

    rows_of_keys : (gs : List Given) (ps : Options) → Each IsSlice (as_data gs >>= by_data ps)
    rows_of_keys gs ps = then_each IsSlice (as_data gs) (by_data ps) (λ ds. then_each IsSlice (each (key_if is_storable) ds) (by_keys ps) (λ keys. then_each IsSlice (index_text ps) (by_entries_of keys) (λ i. then_each IsSlice (entries_by v i) (λ es. Ok (selection n some_rows (all_of keys es))) (λ es. tt))))

    get_all_is : (calls : Calls) (gs : List Given) (ps : Options) → get_all_rule w calls (given (table n) ∷ gs) ps ≡ (as_data gs >>= by_data ps)
    get_all_is calls gs ps = rw at_w refl

    get_all_same : IsPartSame get_all_rule
    get_all_same calls gs ps e = sized_rows_of (get_all_rule w calls (given (table n) ∷ gs) ps) (get_all_rule u calls (given (table n) ∷ gs) ps) (rw at_w (rw at_u (rw e (rw entries refl)))) (subst (Each IsSlice) (sym (get_all_is calls gs ps)) (rows_of_keys gs ps))

    part_ruled : (rule : Rule) → IsPartSame rule → (calls : Calls) (gs : List Given) (ps : Options) (m : Meant) → index_text ps ≡ Ok index → table n ≡ m → Ruled rule calls gs ps m
    part_ruled rule same calls gs ps m by_name e = subst (Ruled rule calls gs ps) e (same calls gs ps by_name)

    table_here : table_of n w [] ≡ Ok (table n)
    table_here = rw at_w refl

    table_there : table_of n u [] ≡ Ok (table n)
    table_there = rw at_u refl

    abbrev table_sense : Sense
    table_sense = plain (table_of n)

    part_taken : (rule : Rule) → IsPartSame rule → (ss : List Sense) (os : List (Bytes × Sense)) → AllAlike NoSlot w u agree [] [] ss → senses.options option os w [] ≡ senses.options option os u []
        → ((ps : Options) → senses.options option os u [] ≡ Ok ps → index_text ps ≡ Ok index) → SameRows (plain (taking (senses.arguments argument 0) option by_groups rule (table_sense ∷ ss) os))
    part_taken rule same ss os all g by_name = taken_same table_sense tt ss os option all g rule (table_here ∙ sym table_there)
        (λ gs ps m e is. part_ruled rule same (calls_of (table_sense ∷ ss) u []) gs ps m (by_name ps e) (same_ok (table n) m (sym table_here ∙ is)))

    part_op : (o : Op) → is_part o ≡ true → (ss : List Sense) (os : List (Bytes × Sense)) → AllAlike NoSlot w u agree [] [] ss → senses.options option os w [] ≡ senses.options option os u []
        → ((ps : Options) → senses.options option os u [] ≡ Ok ps → index_text ps ≡ Ok index) → SameRows (sense_of o (table_sense ∷ ss) os)
    part_op op.Between h ss os all g by_name = fits op.Between (table_sense ∷ ss) os (part_taken between_rule between_same ss os all g by_name)
    part_op op.GetAll h ss os all g by_name = fits op.GetAll (table_sense ∷ ss) os (part_taken get_all_rule get_all_same ss os all g by_name)
    part_op o h ss os all g by_name = absurd (cc (h))

    part_no_stage : (o : Op) → is_part o ≡ true → is_stage o ≡ false
    part_no_stage op.Between h = refl
    part_no_stage op.GetAll h = refl
    part_no_stage o h = absurd (cc (h))

    mutual
      pub shape_same : (f : Form) → IsShape n f → shape_index f ≡ Ok index → SameRows (sense f)
      shape_same (slot k) h e = subst (λ j. SameRows (plain (table_of j))) (sym (equal k n h)) (tt, (table_here ∙ sym table_there, subst (Each AreRows) (sym table_here) refl))
      shape_same (operation o fs ms) (inl h) e = on_stage o h.0 fs h.1 ms h.2 (subst (λ b. (if b then first_index fs else index_in ms) ≡ Ok index) h.0 e)
      shape_same (operation o fs ms) (inr h) e = on_part o h.0 fs h.1 ms h.2 (subst (λ b. (if b then first_index fs else index_in ms) ≡ Ok index) (part_no_stage o h.0) e)
      shape_same (literal d) h e = absurd h
      shape_same (several fs) h e = absurd h
      shape_same (keyed ms) h e = absurd h
      shape_same (variable id) h e = absurd h
      shape_same implicit h e = absurd h
      shape_same (function ids body) h e = absurd h

      on_stage : (o : Op) → is_stage o ≡ true → (fs : Forms) → OnShape n fs → (ms : NamedForms) → FieldsName NoSlot [] ms → first_index fs ≡ Ok index → SameRows (sense_of o (form_senses fs) (named_senses ms))
      on_stage o b no_forms h ms fields e = absurd h
      on_stage o b (form f fs) h ms fields e = stage_op o b (sense f) (shape_same f h.0 e) (form_senses fs) (named_senses ms) (alike_arguments fs h.1) (alike_options ms fields) (alike_defaults ms fields)

      on_part : (o : Op) → is_part o ≡ true → (fs : Forms) → OnTable n fs → (ms : NamedForms) → FieldsName NoSlot [] ms → index_in ms ≡ Ok index → SameRows (sense_of o (form_senses fs) (named_senses ms))
      on_part o b no_forms h ms fields e = absurd h
      on_part o b (form (slot k) fs) h ms fields e = subst (λ j. SameRows (sense_of o (plain (table_of j) ∷ form_senses fs) (named_senses ms))) (sym (equal k n h.0))
          (part_op o b (form_senses fs) (named_senses ms) (alike_arguments fs h.1) (alike_options ms fields) (λ ps g. text_named (codes "index") ms index ps u e g))
      on_part o b (form f fs) h ms fields e = absurd (h.0)

    answered_same : (a b : Answer Meant) → Same a b → (settled a >>= to_sequence w) ≡ (settled b >>= to_sequence u)
    answered_same a b s = each_same a s.1 ∙ ap (λ c. settled c >>= to_sequence u) s.0 where
      each_same : (a : Answer Meant) → Each AreRows a → (settled a >>= to_sequence w) ≡ (settled a >>= to_sequence u)
      each_same (Ok m) h = rows_same m h
      each_same (Err no_text) h = refl
      each_same (Err (query_logic t)) h = refl
      each_same (Err (non_existence t)) h = refl
      each_same (Err (resource_limit t)) h = refl
      each_same (Err (op_failed t)) h = refl
      each_same (Err (user t)) h = refl

    pub shape_rows_same : (f : Form) → IsShape n f → shape_index f ≡ Ok index → (value f w [] >>= to_sequence w) ≡ (value f u [] >>= to_sequence u)
    shape_rows_same f h e = answered_same (senses.value (sense f) w []) (senses.value (sense f) u []) (shape_same f h e).1
