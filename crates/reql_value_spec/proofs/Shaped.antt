-- The value of a shape over documents is stages over a source, and so goes document by document.
use Rattle.std.proofs.Common.{◌≡◌, ℕ, zero, suc, nat_eq, refl, sym, ap, ◌∙◌, subst, Bool, true, false, ◌&&◌, List, [], ◌∷◌, ◌++◌, map, if◌then◌else◌, Option, Ok, Err, ◌⊎◌, inl, inr}
use Rattle.std.specs.Prelude.{is_ok, codes}
use Rattle.std.specs.Option.{unwrap_or}
use Rattle.std.specs.List.{AllByRecursion, flat_map}
use Rattle.reql_datum.specs.Answer.{Answer, ◌>>=◌, Reason, query_logic, non_existence, resource_limit, op_failed, user, no_text}
use Rattle.reql_datum.specs.Kinds.{is_storable}
use Rattle.reql_datum.specs.Plain.{Plain}
use Rattle.reql_term.specs.Form.{Form, literal, several, keyed, variable, implicit, function, slot, operation, Forms, no_forms, form, NamedForms}
use Rattle.reql_term.specs.Table.{way_of}
use Rattle.reql_term.specs.Views.{Document, Entry, documents_in, all_of, is_above, is_below}
use Rattle.reql_term.specs.declared.op.Op.{Op}
use Rattle.reql_term.specs.declared.op.Op.TheVariants as op
use Rattle.reql_rules.specs.Faults.{misplaced}
use Rattle.reql_rules.specs.Lists.{Bytes, each}
use Rattle.reql_rules.specs.Patterns.{pluck, without}
use Rattle.reql_rules.specs.Sizes.{shallow}
use Rattle.reql_value_spec.specs.Depends.{Agree, AllName, FieldsName}
use Rattle.reql_value_spec.specs.Fields.{has_fields_rule, with_fields, by_patterns, merge_rule}
use Rattle.reql_value_spec.specs.Meaning.{table_of, sense_by, is_fit, sense_of, sense, form_senses, named_senses, settled}
use Rattle.reql_value_spec.specs.Meant.{Meant, stream, selection, table, Bounds, slice_between, some_rows, bounded, Given, given, Calls, Options, Rule}
use Rattle.reql_value_spec.specs.Sense.{Sense, plain, func, sorter, raiser, value, argument, arguments, option, default_option, options, calls_of, call_of, Optional, taking}
use Rattle.reql_value_spec.specs.Sequenced.{like, alike, like_first, alike_first, sized, on_groups, by_groups}
use Rattle.reql_value_spec.specs.Sequences.{map_rule, filter_rule}
use Rattle.reql_value_spec.specs.Shapes.{answered, IsByDocument, is_stage, is_part, NoSlot, OnTable, IsShape, OnShape, with_documents, over, rows_over, ShapesAreByDocument}
use Rattle.reql_bag.specs.Bag.{times}
use Rattle.reql_value_spec.specs.Stages.{Stage, staged_by, refusing, by_answer, mapping, StageBy, map_stage, filter_stage, pattern_stage, merge_stage, having_stage, with_fields_stage, IsStage}
use Rattle.reql_value_spec.specs.Table.{rule_of}
use Rattle.reql_value_spec.specs.Tables.{get_all_rule, between_rule, key_if, may_bound, index_or_key}
use Rattle.reql_value_spec.specs.Wanted.{as_data, as_datum, text_option, left_is_open, right_is_open, to_sequence}
use Rattle.reql_value_spec.specs.World.{World, View, view_at, documents_of, entries_named}
use Rattle.reql_value_spec.proofs.Depends.{AllAlike, arguments_alike, options_alike, calls_alike, option_alike, default_option_alike, argument_alike, all_alike, fields_alike, nothing_bound}
use Rattle.reql_value_spec.proofs.Scattered.{IsScattered, staged, scattered_by_document}
use Rattle.reql_value_spec.proofs.Sources.{IsAdditive, Refused, Listed, entries_course, part_adds, keys_add, documents_scattered, nothing_scattered}
use Rattle.reql_value_spec.proofs.Stages.{each_as, go_by_element}

wrong : {G : Type 0} → false ≡ true → G
wrong e = absurd (let f : false ≡ true = e in cc)

-- ---- stages joined
bind_twice : (a : Answer (List Plain)) (f g : List Plain → Answer (List Plain)) → (a >>= λ x. f x >>= g) ≡ ((a >>= f) >>= g)
bind_twice (Ok x) f g = refl
bind_twice (Err e) f g = refl

staged_joined : (fs gs : List Stage) (xs : List Plain) → staged (fs ++ gs) xs ≡ (staged fs xs >>= staged gs)
staged_joined [] gs xs = refl
staged_joined (f ∷ fs) gs xs = (λ i. staged_by f xs >>= λ ys. staged_joined fs gs ys i) ∙ bind_twice (staged_by f xs) (staged fs) (staged gs)

abbrev shallow_stage : Stage
shallow_stage = mapping shallow

-- ---- senses
abbrev IsValue : Sense → Type 0
IsValue (plain f) = Unit {0}
IsValue (func o f) = ⊥
IsValue (sorter down s) = ⊥
IsValue (raiser texted f) = ⊥

argument_is : (s : Sense) → IsValue s → (w : World) → argument 0 s w [] ≡ (value s w [] >>= λ m. Ok (given m))
argument_is (plain f) h w = refl
argument_is (func o f) h w = absurd h
argument_is (sorter down s) h w = absurd h
argument_is (raiser texted f) h w = absurd h

no_call : (s : Sense) → IsValue s → (w : World) (ds : List Plain) → call_of s w [] ds ≡ Err misplaced
no_call (plain f) h w ds = refl
no_call (func o f) h w ds = absurd h
no_call (sorter down s) h w ds = absurd h
no_call (raiser texted f) h w ds = absurd h

if_value : (b : Bool) (s t : Sense) → IsValue s → IsValue t → IsValue (if b then s else t)
if_value true s t h g = h
if_value false s t h g = g

-- ---- rows: a table, a part of it, or a stream
record Rows (streams : Bool) (m : Meant) : Type 0 where
  slot : ℕ
  is_like : (ws : List Plain) → like m ws ≡ stream ws
  is_alike : (ws : List Plain) → alike m ws ≡ (if streams then stream ws else selection slot some_rows ws)
  once : (f : Meant → Answer Meant) → on_groups f m ≡ f m

stream_rows : (ds : List Plain) → Rows true (stream ds)
stream_rows ds = record { slot = 0; is_like = λ ws. refl; is_alike = λ ws. refl; once = λ f. refl }

table_rows : (k : ℕ) → Rows false (table k)
table_rows k = record { slot = k; is_like = λ ws. refl; is_alike = λ ws. refl; once = λ f. refl }

some_are_rows : (k : ℕ) (ds : List Plain) → Rows false (selection k some_rows ds)
some_are_rows k ds = record { slot = k; is_like = λ ws. refl; is_alike = λ ws. refl; once = λ f. refl }

slice_rows : (k : ℕ) (b : Bounds) (ds : List Plain) → Rows false (selection k (slice_between b) ds)
slice_rows k b ds = record { slot = k; is_like = λ ws. refl; is_alike = λ ws. refl; once = λ f. refl }

module _ (base : World) (n : ℕ) (t : View) where
  abbrev at : List Document → World
  at docs = over base n t docs

  abbrev limit : ℕ
  limit = base.array_limit

  -- an answer of rows and one of plain values are the same
  abbrev Gives : Bool → List Document → Answer Meant → Answer (List Plain) → Type 0
  Gives streams docs (Ok m) (Ok vs) = (to_sequence (at docs) m ≡ Ok vs) × Rows streams m
  Gives streams docs (Err e) (Err d) = e ≡ d
  Gives streams docs (Ok m) (Err d) = ⊥
  Gives streams docs (Err e) (Ok vs) = ⊥

  record Course (a : List Document → Answer Meant) : Type 0 where
    streams : Bool
    stages : List Stage
    source : List Document → List Plain
    scattered : IsScattered source
    gives : (docs : List Document) → Gives streams docs (a docs) (staged stages (source docs))

  refused : (a : List Document → Answer Meant) (e : Reason) → ((docs : List Document) → a docs ≡ Err e) → Course a
  refused a e h = record {
    streams = true;
    stages = refusing e ∷ [];
    source = λ docs. [];
    scattered = nothing_scattered;
    gives = λ docs. subst (λ x. Gives true docs x (Err e)) (sym (h docs)) refl;
  }

  as_course : (a b : List Document → Answer Meant) → ((docs : List Document) → a docs ≡ b docs) → Course b → Course a
  as_course a b h c = record {
    streams = c.streams;
    stages = c.stages;
    source = c.source;
    scattered = c.scattered;
    gives = λ docs. subst (λ x. Gives c.streams docs x (staged c.stages (c.source docs))) (sym (h docs)) (c.gives docs);
  }

  -- ---- parts of a table
  abbrev Sized : (List Document → Answer Meant) → Type 0
  Sized a = Course (λ docs. a docs >>= sized limit)

  then_sized : {A : Type 0} (x : Answer A) (f : A → List Document → Answer Meant) → ((y : A) → Sized (f y)) → Sized (λ docs. x >>= λ y. f y docs)
  then_sized (Ok y) f h = h y
  then_sized (Err e) f h = refused (λ docs. Err e) e (λ docs. refl)

  listed : (name : Bytes) (f : List Entry → List Plain) → IsAdditive f → (make : List Plain → Meant) → ((vs : List Plain) → Rows false (make vs))
      → ((docs : List Document) (vs : List Plain) → to_sequence (at docs) (make vs) ≡ Ok vs) → ((vs : List Plain) → sized limit (make vs) ≡ Ok (make vs))
      → Refused (λ docs. entries_named (with_documents t docs) name) ⊎ Listed (λ docs. entries_named (with_documents t docs) name) → Sized (λ docs. entries_named (with_documents t docs) name >>= λ es. Ok (make (f es)))
  listed name f adds make rows values fits (inl r) = refused (λ docs. (entries_named (with_documents t docs) name >>= λ es. Ok (make (f es))) >>= sized limit) r.why (λ docs. ap (λ a. (a >>= λ es. Ok (make (f es))) >>= sized limit) (r.is docs))
  listed name f adds make rows values fits (inr l) = record {
    streams = false;
    stages = [];
    source = λ docs. f (l.list docs);
    scattered = l.scattered f adds;
    gives = λ docs. subst (λ x. Gives false docs x (Ok (f (l.list docs)))) (sym (ap (λ a. (a >>= λ es. Ok (make (f es))) >>= sized limit) (l.is docs) ∙ fits (f (l.list docs)))) (values docs (f (l.list docs)), rows (f (l.list docs)));
  }

  module _ (k : ℕ) (here : nat_eq k n ≡ true) where
    view_is : (docs : List Document) → view_at (at docs) k ≡ Ok (with_documents t docs)
    view_is docs = rw here refl

    -- the part that a rule gives of the view
    abbrev get_all_of : List Given → Options → View → Answer Meant
    get_all_of gs opts v = as_data gs >>= λ ds. each (key_if is_storable) ds >>= λ keys. text_option (codes "index") opts >>= λ i. entries_named v (index_or_key v i) >>= λ es. Ok (selection k some_rows (all_of keys es))

    get_all_course : (gs : List Given) (opts : Options) → Sized (λ docs. get_all_of gs opts (with_documents t docs))
    get_all_course gs opts =
        then_sized (as_data gs) (λ ds docs. each (key_if is_storable) ds >>= λ keys. text_option (codes "index") opts >>= λ i. entries_named (with_documents t docs) (unwrap_or i t.key) >>= λ es. Ok (selection k some_rows (all_of keys es))) (λ ds.
        then_sized (each (key_if is_storable) ds) (λ keys docs. text_option (codes "index") opts >>= λ i. entries_named (with_documents t docs) (unwrap_or i t.key) >>= λ es. Ok (selection k some_rows (all_of keys es))) (λ keys.
        then_sized (text_option (codes "index") opts) (λ i docs. entries_named (with_documents t docs) (unwrap_or i t.key) >>= λ es. Ok (selection k some_rows (all_of keys es))) (λ i.
        listed (unwrap_or i t.key) (all_of keys) (keys_add keys) (selection k some_rows) (some_are_rows k) (λ docs vs. refl) (λ vs. refl) (entries_course t (unwrap_or i t.key)))))

    get_all_is : (calls : Calls) (gs : List Given) (opts : Options) (docs : List Document) → get_all_rule (at docs) calls (given (table k) ∷ gs) opts ≡ get_all_of gs opts (with_documents t docs)
    get_all_is calls gs opts docs = rw (view_is docs) refl

    abbrev between_bounds : View → Option Bytes → Plain → Bool → Plain → Bool → Bounds
    between_bounds v i bottom lo top ho = record { index = index_or_key v i; low = bottom; low_open = lo; high = top; high_open = ho }

    abbrev slice_of : List Document → Option Bytes → Plain → Bool → Plain → Bool → Answer Meant
    slice_of docs i bottom lo top ho = entries_named (with_documents t docs) (unwrap_or i t.key) >>= λ es. Ok (selection k (slice_between (between_bounds t i bottom lo top ho)) (documents_in (bounded (between_bounds t i bottom lo top ho) es)))

    abbrev between_by : Given → Given → Options → View → Answer Meant
    between_by l u opts v = as_datum l >>= λ d. as_datum u >>= λ e. key_if may_bound d >>= λ bottom. key_if may_bound e >>= λ top. text_option (codes "index") opts >>= λ i. left_is_open opts >>= λ lo. right_is_open opts >>= λ ho.
        entries_named v (index_or_key v i) >>= λ es. Ok (selection k (slice_between (between_bounds v i bottom lo top ho)) (documents_in (bounded (between_bounds v i bottom lo top ho) es)))

    between_course : (l u : Given) (opts : Options) → Sized (λ docs. between_by l u opts (with_documents t docs))
    between_course l u opts =
        then_sized (as_datum l) (λ d docs. as_datum u >>= λ e. key_if may_bound d >>= λ bottom. key_if may_bound e >>= λ top. text_option (codes "index") opts >>= λ i. left_is_open opts >>= λ lo. right_is_open opts >>= λ ho. slice_of docs i bottom lo top ho) (λ d.
        then_sized (as_datum u) (λ e docs. key_if may_bound d >>= λ bottom. key_if may_bound e >>= λ top. text_option (codes "index") opts >>= λ i. left_is_open opts >>= λ lo. right_is_open opts >>= λ ho. slice_of docs i bottom lo top ho) (λ e.
        then_sized (key_if may_bound d) (λ bottom docs. key_if may_bound e >>= λ top. text_option (codes "index") opts >>= λ i. left_is_open opts >>= λ lo. right_is_open opts >>= λ ho. slice_of docs i bottom lo top ho) (λ bottom.
        then_sized (key_if may_bound e) (λ top docs. text_option (codes "index") opts >>= λ i. left_is_open opts >>= λ lo. right_is_open opts >>= λ ho. slice_of docs i bottom lo top ho) (λ top.
        then_sized (text_option (codes "index") opts) (λ i docs. left_is_open opts >>= λ lo. right_is_open opts >>= λ ho. slice_of docs i bottom lo top ho) (λ i.
        then_sized (left_is_open opts) (λ lo docs. right_is_open opts >>= λ ho. slice_of docs i bottom lo top ho) (λ lo.
        then_sized (right_is_open opts) (λ ho docs. slice_of docs i bottom lo top ho) (λ ho.
        let b : Bounds = between_bounds t i bottom lo top ho in
        listed (unwrap_or i t.key) (λ es. documents_in (bounded b es)) (part_adds (λ x. is_above b.low_open b.low x.0 && is_below b.high_open b.high x.0)) (selection k (slice_between b)) (slice_rows k b) (λ docs vs. refl) (λ vs. refl) (entries_course t (unwrap_or i t.key)))))))))

    between_is : (calls : Calls) (l u : Given) (opts : Options) (docs : List Document) → between_rule (at docs) calls (given (table k) ∷ l ∷ u ∷ []) opts ≡ between_by l u opts (with_documents t docs)
    between_is calls l u opts docs = rw (view_is docs) refl

    abbrev IsPart : Rule → Type 0
    IsPart rule = (calls : Calls) (gs : List Given) (opts : Options) → Sized (λ docs. rule (at docs) calls (given (table k) ∷ gs) opts)

    get_all_part : IsPart get_all_rule
    get_all_part calls gs opts = as_course (λ docs. get_all_rule (at docs) calls (given (table k) ∷ gs) opts >>= sized limit) (λ docs. get_all_of gs opts (with_documents t docs) >>= sized limit) (λ docs. ap (λ a. a >>= sized limit) (get_all_is calls gs opts docs)) (get_all_course gs opts)

    between_part : IsPart between_rule
    between_part calls (l ∷ u ∷ []) opts = as_course (λ docs. between_rule (at docs) calls (given (table k) ∷ l ∷ u ∷ []) opts >>= sized limit) (λ docs. between_by l u opts (with_documents t docs) >>= sized limit) (λ docs. ap (λ a. a >>= sized limit) (between_is calls l u opts docs)) (between_course l u opts)
    between_part calls [] opts = refused (λ docs. Err misplaced) misplaced (λ docs. refl)
    between_part calls (l ∷ []) opts = refused (λ docs. Err misplaced) misplaced (λ docs. refl)
    between_part calls (l ∷ u ∷ x ∷ gs) opts = refused (λ docs. Err misplaced) misplaced (λ docs. refl)

  -- ---- a rule over its arguments, those after the first being the same for all documents
  abbrev whole : Rule → List Document → Answer (List Given) → Answer Options → Calls → Answer Meant → Answer Meant
  whole rule docs others opts calls a = ((a >>= λ m. Ok (given m)) >>= λ g. others >>= λ gs. Ok (g ∷ gs)) >>= λ gs. opts >>= λ os. by_groups limit (λ hs. rule (at docs) calls hs os) gs

  part_whole : (k : ℕ) (here : nat_eq k n ≡ true) (rule : Rule) → IsPart k here rule → (others : Answer (List Given)) (opts : Answer Options) (calls : Calls) → Course (λ docs. whole rule docs others opts calls (Ok (table k)))
  part_whole k here rule part (Err e) opts calls = refused (λ docs. Err e) e (λ docs. refl)
  part_whole k here rule part (Ok gs) (Err e) calls = refused (λ docs. Err e) e (λ docs. refl)
  part_whole k here rule part (Ok gs) (Ok os) calls = part calls gs os

  abbrev next_stage : StageBy → Answer (List Given) → Answer Options → Calls → Stage
  next_stage stage others opts calls = by_answer others (λ gs. by_answer opts (λ os. stage calls gs os))

  stream_same : (docs : List Document) (r s : Answer (List Plain)) → r ≡ s → Gives true docs (r >>= λ es. Ok (stream es)) (s >>= λ xs. Ok xs)
  stream_same docs r s e = subst (λ q. Gives true docs (r >>= λ es. Ok (stream es)) (q >>= λ xs. Ok xs)) e (itself r) where
    itself : (r : Answer (List Plain)) → Gives true docs (r >>= λ es. Ok (stream es)) (r >>= λ xs. Ok xs)
    itself (Ok es) = (refl, stream_rows es)
    itself (Err e) = refl

  stream_made : (docs : List Document) (make : List Plain → Meant) → ((ws : List Plain) → make ws ≡ stream ws) → (q : Answer (List Plain)) → Gives true docs ((q >>= λ ws. Ok (make ws)) >>= sized limit) (q >>= staged (shallow_stage ∷ []))
  stream_made docs make is (Ok ws) = subst (λ m. Gives true docs (sized limit m) (staged (shallow_stage ∷ []) ws)) (sym (is ws)) (stream_same docs (each shallow ws) (staged_by shallow_stage ws) (each_as shallow ws))
  stream_made docs make is (Err e) = refl

  rows_made : (docs : List Document) (make : List Plain → Meant) (k : ℕ) → ((ws : List Plain) → make ws ≡ selection k some_rows ws) → (q : Answer (List Plain)) → Gives false docs ((q >>= λ ws. Ok (make ws)) >>= sized limit) (q >>= staged [])
  rows_made docs make k is (Ok ws) = subst (λ m. Gives false docs (sized limit m) (Ok ws)) (sym (is ws)) (refl, some_are_rows k ws)
  rows_made docs make k is (Err e) = refl

  module _ (make : Meant → List Plain → Meant) (rule : Rule) (stage : StageBy) (stands : IsStage make rule stage) where
    -- what the rule gives over rows, in terms of its stage
    ruled : (docs : List Document) (streams : Bool) (calls : Calls) (gs : List Given) (os : Options) (m : Meant) (vs : List Plain) → to_sequence (at docs) m ≡ Ok vs → Rows streams m
        → on_groups (λ x. rule (at docs) calls (given x ∷ gs) os >>= sized limit) m ≡ ((staged_by (stage calls gs os) vs >>= λ ws. Ok (make m ws)) >>= sized limit)
    ruled docs streams calls gs os m vs h r = r.once (λ x. rule (at docs) calls (given x ∷ gs) os >>= sized limit) ∙ ap (λ a. a >>= sized limit) (stands (at docs) calls gs os m vs h)

    to_stream : (docs : List Document) (streams : Bool) → ((m : Meant) → Rows streams m → (ws : List Plain) → make m ws ≡ stream ws) → (others : Answer (List Given)) (opts : Answer Options) (calls : Calls) (a : Answer Meant) (p : Answer (List Plain)) → Gives streams docs a p
        → Gives true docs (whole rule docs others opts calls a) (p >>= staged (next_stage stage others opts calls ∷ shallow_stage ∷ []))
    to_stream docs streams is (Err e) opts calls (Ok m) (Ok vs) h = refl
    to_stream docs streams is (Ok gs) (Err e) calls (Ok m) (Ok vs) h = refl
    to_stream docs streams is (Ok gs) (Ok os) calls (Ok m) (Ok vs) h =
        subst (λ x. Gives true docs x (staged (stage calls gs os ∷ shallow_stage ∷ []) vs)) (sym (ruled docs streams calls gs os m vs h.0 h.1)) (stream_made docs (make m) (is m h.1) (staged_by (stage calls gs os) vs))
    to_stream docs streams is others opts calls (Ok m) (Err d) h = absurd h
    to_stream docs streams is others opts calls (Err e) (Ok vs) h = absurd h
    to_stream docs streams is others opts calls (Err e) (Err d) h = h

    to_rows : (docs : List Document) → ((m : Meant) (r : Rows false m) (ws : List Plain) → make m ws ≡ selection r.slot some_rows ws) → (others : Answer (List Given)) (opts : Answer Options) (calls : Calls) (a : Answer Meant) (p : Answer (List Plain)) → Gives false docs a p
        → Gives false docs (whole rule docs others opts calls a) (p >>= staged (next_stage stage others opts calls ∷ []))
    to_rows docs is (Err e) opts calls (Ok m) (Ok vs) h = refl
    to_rows docs is (Ok gs) (Err e) calls (Ok m) (Ok vs) h = refl
    to_rows docs is (Ok gs) (Ok os) calls (Ok m) (Ok vs) h =
        subst (λ x. Gives false docs x (staged (stage calls gs os ∷ []) vs)) (sym (ruled docs false calls gs os m vs h.0 h.1)) (rows_made docs (make m) h.1.slot (is m h.1) (staged_by (stage calls gs os) vs))
    to_rows docs is others opts calls (Ok m) (Err d) h = absurd h
    to_rows docs is others opts calls (Err e) (Ok vs) h = absurd h
    to_rows docs is others opts calls (Err e) (Err d) h = h

    stream_course : (a : List Document → Answer Meant) (c : Course a) → ((m : Meant) → Rows c.streams m → (ws : List Plain) → make m ws ≡ stream ws) → (others : Answer (List Given)) (opts : Answer Options) (calls : Calls)
        → Course (λ docs. whole rule docs others opts calls (a docs))
    stream_course a c is others opts calls = record {
      streams = true;
      stages = c.stages ++ (next_stage stage others opts calls ∷ shallow_stage ∷ []);
      source = c.source;
      scattered = c.scattered;
      gives = λ docs. subst (λ q. Gives true docs (whole rule docs others opts calls (a docs)) q) (sym (staged_joined c.stages (next_stage stage others opts calls ∷ shallow_stage ∷ []) (c.source docs)))
          (to_stream docs c.streams is others opts calls (a docs) (staged c.stages (c.source docs)) (c.gives docs));
    }

    rows_course : (a : List Document → Answer Meant) (stages : List Stage) (source : List Document → List Plain) → IsScattered source → ((docs : List Document) → Gives false docs (a docs) (staged stages (source docs)))
        → ((m : Meant) (r : Rows false m) (ws : List Plain) → make m ws ≡ selection r.slot some_rows ws) → (others : Answer (List Given)) (opts : Answer Options) (calls : Calls) → Course (λ docs. whole rule docs others opts calls (a docs))
    rows_course a stages source scattered gives is others opts calls = record {
      streams = false;
      stages = stages ++ (next_stage stage others opts calls ∷ []);
      source = source;
      scattered = scattered;
      gives = λ docs. subst (λ q. Gives false docs (whole rule docs others opts calls (a docs)) q) (sym (staged_joined stages (next_stage stage others opts calls ∷ []) (source docs)))
          (to_rows docs is others opts calls (a docs) (staged stages (source docs)) (gives docs));
    }

  -- a filter keeps rows of a table
  alike_course : (rule : Rule) (stage : StageBy) → IsStage alike rule stage → (a : List Document → Answer Meant) (streams : Bool) (stages : List Stage) (source : List Document → List Plain) → IsScattered source
      → ((docs : List Document) → Gives streams docs (a docs) (staged stages (source docs))) → (others : Answer (List Given)) (opts : Answer Options) (calls : Calls) → Course (λ docs. whole rule docs others opts calls (a docs))
  alike_course rule stage stands a true stages source scattered gives others opts calls =
      stream_course alike rule stage stands a (record { streams = true; stages = stages; source = source; scattered = scattered; gives = gives }) (λ m r ws. r.is_alike ws) others opts calls
  alike_course rule stage stands a false stages source scattered gives others opts calls = rows_course alike rule stage stands a stages source scattered gives (λ m r ws. r.is_alike ws) others opts calls

  -- ---- terms
  agree : (docs : List Document) → Agree NoSlot (at docs) (at [])
  agree docs = record { limit = refl; databases = refl; views = λ k h. absurd h }

  module _ (s : Sense) (is_value : IsValue s) (ss : List Sense) (os : List (Bytes × Sense)) (all : (docs : List Document) → AllAlike NoSlot (at docs) (at []) (agree docs) [] [] ss)
      (opt : Optional) (opts_same : (docs : List Document) → options opt os (at docs) [] ≡ options opt os (at []) []) where
    abbrev others : Answer (List Given)
    others = arguments argument 1 ss (at []) []

    abbrev opts : Answer Options
    opts = options opt os (at []) []

    abbrev calls : Calls
    calls = calls_of (s ∷ ss) (at []) []

    others_same : (docs : List Document) → arguments argument 1 ss (at docs) [] ≡ others
    others_same docs = (arguments_alike NoSlot (at docs) (at []) (agree docs) [] [] argument (argument_alike NoSlot (at docs) (at []) (agree docs) [] []) 1 ss (all docs)).0

    call_same : (docs : List Document) (j : ℕ) (ds : List Plain) → calls_of (s ∷ ss) (at docs) [] j ds ≡ calls j ds
    call_same docs zero ds = no_call s is_value (at docs) ds ∙ sym (no_call s is_value (at []) ds)
    call_same docs (suc j) ds = (calls_alike NoSlot (at docs) (at []) (agree docs) [] [] ss (all docs) j ds).0

    taken_is : (rule : Rule) (docs : List Document) → taking (arguments argument 0) opt by_groups rule (s ∷ ss) os (at docs) [] ≡ whole rule docs others opts calls (value s (at docs) [])
    taken_is rule docs = λ i. (argument_is s is_value (at docs) i >>= λ g. others_same docs i >>= λ gs. Ok (g ∷ gs)) >>= λ gs. opts_same docs i >>= λ ps. by_groups limit (λ hs. rule (at docs) (λ j ds. call_same docs j ds i) hs ps) gs

    like_taken : (rule : Rule) (stage : StageBy) → IsStage like rule stage → Course (λ docs. value s (at docs) []) → Course (λ docs. taking (arguments argument 0) opt by_groups rule (s ∷ ss) os (at docs) [])
    like_taken rule stage stands c = as_course (λ docs. taking (arguments argument 0) opt by_groups rule (s ∷ ss) os (at docs) []) (λ docs. whole rule docs others opts calls (value s (at docs) [])) (taken_is rule)
        (stream_course like rule stage stands (λ docs. value s (at docs) []) c (λ m r ws. r.is_like ws) others opts calls)

    alike_taken : (rule : Rule) (stage : StageBy) → IsStage alike rule stage → Course (λ docs. value s (at docs) []) → Course (λ docs. taking (arguments argument 0) opt by_groups rule (s ∷ ss) os (at docs) [])
    alike_taken rule stage stands c = as_course (λ docs. taking (arguments argument 0) opt by_groups rule (s ∷ ss) os (at docs) []) (λ docs. whole rule docs others opts calls (value s (at docs) [])) (taken_is rule)
        (alike_course rule stage stands (λ docs. value s (at docs) []) c.streams c.stages c.source c.scattered c.gives others opts calls)

    part_taken : (k : ℕ) (here : nat_eq k n ≡ true) (rule : Rule) → IsPart k here rule → ((docs : List Document) → value s (at docs) [] ≡ Ok (table k)) → Course (λ docs. taking (arguments argument 0) opt by_groups rule (s ∷ ss) os (at docs) [])
    part_taken k here rule part is = as_course (λ docs. taking (arguments argument 0) opt by_groups rule (s ∷ ss) os (at docs) []) (λ docs. whole rule docs others opts calls (Ok (table k)))
        (λ docs. taken_is rule docs ∙ ap (whole rule docs others opts calls) (is docs)) (part_whole k here rule part others opts calls)

  -- an operator that has these arguments
  if_fits : (b : Bool) (x y : Sense) → Course (λ docs. value x (at docs) []) → Course (λ docs. value y (at docs) []) → Course (λ docs. value (if b then x else y) (at docs) [])
  if_fits true x y c d = c
  if_fits false x y c d = d

  unfit : Course (λ docs. value (plain (λ w vars. Err misplaced)) (at docs) [])
  unfit = refused (λ docs. Err misplaced) misplaced (λ docs. refl)

  abbrev SenseCourse : Sense → Type 0
  SenseCourse s = IsValue s × Course (λ docs. value s (at docs) [])

  fits : (o : Op) (ss : List Sense) (os : List (Bytes × Sense)) → IsValue (sense_by (way_of o) (rule_of o) ss os) → Course (λ docs. value (sense_by (way_of o) (rule_of o) ss os) (at docs) []) → SenseCourse (sense_of o ss os)
  fits o ss os v c = (if_value (is_fit o ss os) (sense_by (way_of o) (rule_of o) ss os) (plain (λ w vars. Err misplaced)) v tt, if_fits (is_fit o ss os) (sense_by (way_of o) (rule_of o) ss os) (plain (λ w vars. Err misplaced)) c unfit)

  stage_course : (o : Op) → is_stage o ≡ true → (s : Sense) → SenseCourse s → (fs : Forms) → AllName NoSlot [] fs → (ms : NamedForms) → FieldsName NoSlot [] ms → SenseCourse (sense_of o (s ∷ form_senses fs) (named_senses ms))
  stage_course o h s c fs names ms fields =
      let ss : List Sense = form_senses fs in
      let os : List (Bytes × Sense) = named_senses ms in
      let all : (docs : List Document) → AllAlike NoSlot (at docs) (at []) (agree docs) [] [] ss = λ docs. all_alike NoSlot (at docs) (at []) (agree docs) fs [] names [] [] (nothing_bound [] []) in
      let given_same : (docs : List Document) → options option os (at docs) [] ≡ options option os (at []) [] =
      λ docs. options_alike NoSlot (at docs) (at []) (agree docs) [] [] option (option_alike NoSlot (at docs) (at []) (agree docs) [] []) os (fields_alike NoSlot (at docs) (at []) (agree docs) ms [] fields [] [] (nothing_bound [] [])) in
      let default_same : (docs : List Document) → options default_option os (at docs) [] ≡ options default_option os (at []) [] =
      λ docs. options_alike NoSlot (at docs) (at []) (agree docs) [] [] default_option (default_option_alike NoSlot (at docs) (at []) (agree docs) [] []) os (fields_alike NoSlot (at docs) (at []) (agree docs) ms [] fields [] [] (nothing_bound [] [])) in
      by_op o h s c ss os all given_same default_same where
        by_op : (o : Op) → is_stage o ≡ true → (s : Sense) → SenseCourse s → (ss : List Sense) (os : List (Bytes × Sense)) → ((docs : List Document) → AllAlike NoSlot (at docs) (at []) (agree docs) [] [] ss)
            → ((docs : List Document) → options option os (at docs) [] ≡ options option os (at []) []) → ((docs : List Document) → options default_option os (at docs) [] ≡ options default_option os (at []) []) → SenseCourse (sense_of o (s ∷ ss) os)
        by_op op.Map h s c ss os all g d = fits op.Map (s ∷ ss) os tt (like_taken s c.0 ss os all option g (like_first map_rule) map_stage go_by_element.maps c.1)
        by_op op.Filter h s c ss os all g d = fits op.Filter (s ∷ ss) os tt (alike_taken s c.0 ss os all default_option d (alike_first filter_rule) filter_stage go_by_element.filters c.1)
        by_op op.Pluck h s c ss os all g d = fits op.Pluck (s ∷ ss) os tt (like_taken s c.0 ss os all option g (by_patterns pluck) (pattern_stage pluck) go_by_element.plucks c.1)
        by_op op.Without h s c ss os all g d = fits op.Without (s ∷ ss) os tt (like_taken s c.0 ss os all option g (by_patterns without) (pattern_stage without) go_by_element.withouts c.1)
        by_op op.Merge h s c ss os all g d = fits op.Merge (s ∷ ss) os tt (like_taken s c.0 ss os all option g merge_rule merge_stage go_by_element.merges c.1)
        by_op op.HasFields h s c ss os all g d = fits op.HasFields (s ∷ ss) os tt (like_taken s c.0 ss os all option g has_fields_rule having_stage go_by_element.havings c.1)
        by_op op.WithFields h s c ss os all g d = fits op.WithFields (s ∷ ss) os tt (like_taken s c.0 ss os all option g (like_first with_fields) with_fields_stage go_by_element.with_all c.1)
        by_op o h s c ss os all g d = wrong h

  table_is : (k : ℕ) (here : nat_eq k n ≡ true) (docs : List Document) → table_of k (at docs) [] ≡ Ok (table k)
  table_is k here docs = ap (λ a. a >>= λ v. Ok (table k)) (view_is k here docs)

  part_course : (o : Op) → is_part o ≡ true → (k : ℕ) → nat_eq k n ≡ true → (fs : Forms) → AllName NoSlot [] fs → (ms : NamedForms) → FieldsName NoSlot [] ms → SenseCourse (sense_of o (plain (table_of k) ∷ form_senses fs) (named_senses ms))
  part_course o h k here fs names ms fields =
      let ss : List Sense = form_senses fs in
      let os : List (Bytes × Sense) = named_senses ms in
      let all : (docs : List Document) → AllAlike NoSlot (at docs) (at []) (agree docs) [] [] ss = λ docs. all_alike NoSlot (at docs) (at []) (agree docs) fs [] names [] [] (nothing_bound [] []) in
      let given_same : (docs : List Document) → options option os (at docs) [] ≡ options option os (at []) [] =
      λ docs. options_alike NoSlot (at docs) (at []) (agree docs) [] [] option (option_alike NoSlot (at docs) (at []) (agree docs) [] []) os (fields_alike NoSlot (at docs) (at []) (agree docs) ms [] fields [] [] (nothing_bound [] [])) in
      by_op o h ss os all given_same where
        by_op : (o : Op) → is_part o ≡ true → (ss : List Sense) (os : List (Bytes × Sense)) → ((docs : List Document) → AllAlike NoSlot (at docs) (at []) (agree docs) [] [] ss)
            → ((docs : List Document) → options option os (at docs) [] ≡ options option os (at []) []) → SenseCourse (sense_of o (plain (table_of k) ∷ ss) os)
        by_op op.Between h ss os all g = fits op.Between (plain (table_of k) ∷ ss) os tt (part_taken (plain (table_of k)) tt ss os all option g k here between_rule (between_part k here) (table_is k here))
        by_op op.GetAll h ss os all g = fits op.GetAll (plain (table_of k) ∷ ss) os tt (part_taken (plain (table_of k)) tt ss os all option g k here get_all_rule (get_all_part k here) (table_is k here))
        by_op o h ss os all g = wrong h

  slot_course : (k : ℕ) → nat_eq k n ≡ true → SenseCourse (plain (table_of k))
  slot_course k here = (
    tt,
    record {
      streams = false;
      stages = [];
      source = λ docs. map (λ m. m.1) docs;
      scattered = documents_scattered;
      gives = λ docs. subst (λ x. Gives false docs x (Ok (map (λ m. m.1) docs))) (sym (table_is k here docs)) (ap (λ a. a >>= λ v. Ok (documents_of v)) (view_is k here docs), table_rows k);
    },
  )

  mutual
    course : (f : Form) → IsShape n f → SenseCourse (sense f)
    course (slot k) h = slot_course k h
    course (operation o fs ms) (inl h) = on_shape o h.0 fs h.1 ms h.2
    course (operation o fs ms) (inr h) = on_table o h.0 fs h.1 ms h.2
    course (literal d) h = absurd h
    course (several fs) h = absurd h
    course (keyed ms) h = absurd h
    course (variable id) h = absurd h
    course implicit h = absurd h
    course (function ids body) h = absurd h

    on_shape : (o : Op) → is_stage o ≡ true → (fs : Forms) → OnShape n fs → (ms : NamedForms) → FieldsName NoSlot [] ms → SenseCourse (sense_of o (form_senses fs) (named_senses ms))
    on_shape o b no_forms h ms fields = absurd h
    on_shape o b (form f fs) h ms fields = stage_course o b (sense f) (course f h.0) fs h.1 ms fields

    on_table : (o : Op) → is_part o ≡ true → (fs : Forms) → OnTable n fs → (ms : NamedForms) → FieldsName NoSlot [] ms → SenseCourse (sense_of o (form_senses fs) (named_senses ms))
    on_table o b no_forms h ms fields = absurd h
    on_table o b (form (slot k) fs) h ms fields = part_course o b k h.0 fs h.1 ms fields
    on_table o b (form f fs) h ms fields = absurd (h.0)

  -- ---- the rows of a term
  settled_rows : (docs : List Document) (streams : Bool) (a : Answer Meant) (p : Answer (List Plain)) → Gives streams docs a p
      → (answered (settled a >>= to_sequence (at docs)) ≡ answered p) × (is_ok (settled a >>= to_sequence (at docs)) ≡ is_ok p)
  settled_rows docs streams (Ok m) (Ok vs) h = (ap answered h.0, ap is_ok h.0)
  settled_rows docs streams (Ok m) (Err d) h = absurd h
  settled_rows docs streams (Err e) (Ok vs) h = absurd h
  settled_rows docs streams (Err no_text) (Err d) h = (refl, refl)
  settled_rows docs streams (Err (query_logic x)) (Err d) h = (refl, refl)
  settled_rows docs streams (Err (non_existence x)) (Err d) h = (refl, refl)
  settled_rows docs streams (Err (resource_limit x)) (Err d) h = (refl, refl)
  settled_rows docs streams (Err (op_failed x)) (Err d) h = (refl, refl)
  settled_rows docs streams (Err (user x)) (Err d) h = (refl, refl)

module _ (a b : List Document → Answer (List Plain)) (same : (docs : List Document) → answered (a docs) ≡ answered (b docs)) (good : (docs : List Document) → is_ok (a docs) ≡ is_ok (b docs)) where
  all_good : (docs : List Document) → AllByRecursion (λ m. is_ok (a (m ∷ [])) ≡ true) docs → AllByRecursion (λ m. is_ok (b (m ∷ [])) ≡ true) docs
  all_good [] h = tt
  all_good (d ∷ ds) h = (sym (good (d ∷ [])) ∙ h.0, all_good ds h.1)

  by_same : IsByDocument b → IsByDocument a
  by_same by docs h v = ap (times v) (same docs) ∙ by docs (all_good docs h) v ∙ sym (λ i. times v (flat_map (λ m. same (m ∷ []) i) docs))

pub by_document : ShapesAreByDocument
by_document base n t f h =
    let c = (course base n t f h).1 in
    by_same (rows_over base n t f) (λ docs. staged c.stages (c.source docs))
    (λ docs. (settled_rows base n t docs c.streams (value (sense f) (over base n t docs) []) (staged c.stages (c.source docs)) (c.gives docs)).0)
    (λ docs. (settled_rows base n t docs c.streams (value (sense f) (over base n t docs) []) (staged c.stages (c.source docs)) (c.gives docs)).1)
    (scattered_by_document c.stages c.source c.scattered)
