-- What a shape gives of a document that its source leaves out: nothing, or a fault.
use Rattle.std.proofs.Common.{◌≡◌, ℕ, suc, nat_eq, length, List, [], ◌∷◌, ◌++◌, map, Bool, true, false, cond, ◌&&◌, ◌||◌, if◌then◌else◌, Option, Some, None, option_map, Ok, Err, codes, refl, sym, ap, ◌∙◌, subst, append-nil}
use Rattle.std.specs.List.{list_all, list_any, filter}
use Rattle.std.specs.Option.{unwrap_or}
use Rattle.std.specs.Ordering.{is_eq, is_lt}
use Rattle.std.specs.declared.cmp.Ordering.{Ordering}
use Rattle.reql_datum.specs.Answer.{Answer, ◌>>=◌, Reason, query_logic, non_existence, resource_limit, op_failed, user, no_text}
use Rattle.reql_datum.specs.Kinds.{is_storable, type_name}
use Rattle.reql_datum.specs.Members.{find}
use Rattle.reql_datum.specs.Order.{order}
use Rattle.reql_datum.specs.Plain.{Plain}
use Rattle.reql_rules.specs.Faults.{misplaced, not_a_key}
use Rattle.reql_rules.specs.Lists.{Bytes, each}
use Rattle.reql_rules.specs.Sorting.{into_place, sorted}
use Rattle.reql_rules.specs.Patterns.{pluck, without}
use Rattle.reql_rules.specs.Types.{same_text}
use Rattle.reql_term.specs.Form.{Form, literal, several, keyed, variable, implicit, function, slot, operation, Forms, no_forms, form, NamedForms}
use Rattle.reql_term.specs.Table.{takes, way_of}
use Rattle.reql_term.specs.Views.{Document, Entry, Index, primary, documents_in, all_of, entry_order, is_above, is_below}
use Rattle.reql_term.specs.declared.op.Op.{Op}
use Rattle.reql_term.specs.declared.op.Op.TheVariants as op
use Rattle.reql_value_spec.specs.Fields.{has_fields_rule, with_fields, by_patterns, merge_rule}
use Rattle.reql_value_spec.specs.Index.{entries, document_entries, index_list, plain_view}
use Rattle.reql_value_spec.specs.Meaning.{settled, sense, form_senses, named_senses, table_of, is_fit, sense_by, sense_of}
use Rattle.reql_value_spec.specs.Meant.{Meant, stream, selection, table, Bounds, slice_between, some_rows, bounded, Given, given, Calls, Options, Rule}
use Rattle.reql_value_spec.specs.Sense.{Sense, plain, func, sorter, raiser, value, argument, arguments, option, default_option, options, calls_of, Optional, taking, strict}
use Rattle.reql_value_spec.specs.Sequenced.{like, alike, like_first, alike_first, sized, on_groups, by_groups}
use Rattle.reql_value_spec.specs.Sequences.{map_rule, filter_rule}
use Rattle.reql_value_spec.specs.Shapes.{answered, is_stage, over}
use Rattle.reql_value_spec.specs.Stages.{StageBy, unless, map_stage, filter_stage, pattern_stage, merge_stage, having_stage, with_fields_stage, IsStage}
use Rattle.reql_value_spec.specs.Table.{rule_of}
use Rattle.reql_value_spec.specs.Tables.{key_if, may_bound, between_rule, get_all_rule, entries_by}
use Rattle.reql_value_spec.specs.Wanted.{to_sequence, as_data, index_text, left_is_open, right_is_open}
use Rattle.reql_value_spec.specs.World.{World, View, view_at, entries_named, bare_world}
use Rattle.reql_value_spec.proofs.Stages.{go_by_element}
use Rattle.reql_feed_spec.specs.Watched.{Part, between}
use Rattle.reql_feed_spec.proofs.Sources.{same_name, same_names, bounds_of, between_given}
use Rattle.reql_table_spec.specs.Followed.{closed_value, closed_options, arguments as parts, options as named_parts, index_by, index_in, is_between, bounds, part_between, part_of}
use Rattle.reql_table_spec.specs.Indexes.{Indexes}
use Rattle.reql_table_spec.proofs.Closed.{then_ok, if_ok, same_ok, IsLikeBare, like_bare, ClosedArgument, closed_argument, closed_key, closed_given, text_named}
use Rattle.reql_feed_read.specs.Asked.{names_by, part_in}
use Rattle.reql_feed_read.specs.Shapes.{given as found}
use Rattle.reql_feed_read.specs.Source.{Places, Source, in_part, at_keys, holds, values_by, may_hold, everything, is_get_all, keys_over, keys_in, places_in, placed, index_source, base_source, source_in, first_source, LeavesOut}
use Rattle.reql_feed_read.proofs.Reading.{part_read}

-- ---- rows that are none
abbrev is_bare : Meant → Bool
is_bare (stream []) = true
is_bare (selection k some_rows []) = true
is_bare (selection k (slice_between b) []) = true
is_bare m = false

abbrev GivesNone : Answer Meant → Type 0
GivesNone (Ok m) = is_bare m ≡ true
GivesNone (Err e) = Unit {0}

once : (m : Meant) → is_bare m ≡ true → (f : Meant → Answer Meant) → on_groups f m ≡ f m
once (stream []) h f = refl
once (selection k some_rows []) h f = refl
once (selection k (slice_between b) []) h f = refl
once m h f = absurd (cc (h))

no_rows : (m : Meant) → is_bare m ≡ true → (w : World) → to_sequence w m ≡ Ok []
no_rows (stream []) h w = refl
no_rows (selection k some_rows []) h w = refl
no_rows (selection k (slice_between b) []) h w = refl
no_rows m h w = absurd (cc (h))

abbrev MakesNone : (Meant → List Plain → Meant) → Type 0
MakesNone make = (m : Meant) → is_bare m ≡ true → (limit : ℕ) → GivesNone (sized limit (make m []))

likes : MakesNone like
likes (stream []) h limit = refl
likes (selection k some_rows []) h limit = refl
likes (selection k (slice_between b) []) h limit = refl
likes m h limit = absurd (cc (h))

alikes : MakesNone alike
alikes (stream []) h limit = refl
alikes (selection k some_rows []) h limit = refl
alikes (selection k (slice_between b) []) h limit = refl
alikes m h limit = absurd (cc (h))

-- ---- senses
abbrev IsValue : Sense → Type 0
IsValue (plain f) = Unit {0}
IsValue (func o f) = ⊥
IsValue (sorter down s) = ⊥
IsValue (raiser texted f) = ⊥

argument_is : (s : Sense) → IsValue s → (w : World) → argument 0 s w [] ≡ (value s w [] >>= λ m. Ok (given m))
argument_is (plain f) h w = refl
argument_is (func o f) h w = absurd h
argument_is (sorter down s) h w = absurd h
argument_is (raiser texted f) h w = absurd h

abbrev SenseNone : World → Sense → Type 0
SenseNone w s = IsValue s × GivesNone (value s w [])

if_none : (w : World) (b : Bool) (s t : Sense) → SenseNone w s → SenseNone w t → SenseNone w (if b then s else t)
if_none w true s t h g = h
if_none w false s t h g = g

fits_none : (w : World) (o : Op) (ss : List Sense) (os : List (Bytes × Sense)) → SenseNone w (sense_by (way_of o) (rule_of o) ss os) → SenseNone w (sense_of o ss os)
fits_none w o ss os h = if_none w (is_fit o ss os) (sense_by (way_of o) (rule_of o) ss os) (plain (λ u vars. Err misplaced)) h (tt, tt)

-- ---- a stage over none
module _ (make : Meant → List Plain → Meant) (rule : Rule) (stage : StageBy) (stands : IsStage make rule stage) (makes : MakesNone make) (w : World) where
  after_stage : (o : Option Reason) (m : Meant) → is_bare m ≡ true → GivesNone ((unless o (Ok []) >>= λ ws. Ok (make m ws)) >>= sized w.array_limit)
  after_stage None m h = makes m h w.array_limit
  after_stage (Some e) m h = tt

  on_bare : (calls : Calls) (gs : List Given) (os : Options) (m : Meant) → is_bare m ≡ true → GivesNone (by_groups w.array_limit (λ hs. rule w calls hs os) (given m ∷ gs))
  on_bare calls gs os m h =
      subst GivesNone (sym (once m h (λ x. rule w calls (given x ∷ gs) os >>= sized w.array_limit) ∙ ap (λ a. a >>= sized w.array_limit) (stands w calls gs os m [] (no_rows m h w))))
      (after_stage (stage calls gs os).refuses m h)

  whole_none : (a : Answer Meant) → GivesNone a → (others : Answer (List Given)) (opts : Answer Options) (calls : Calls)
      → GivesNone (((a >>= λ m. Ok (given m)) >>= λ g. others >>= λ gs. Ok (g ∷ gs)) >>= λ gs. opts >>= λ os. by_groups w.array_limit (λ hs. rule w calls hs os) gs)
  whole_none (Err e) h others opts calls = tt
  whole_none (Ok m) h (Err e) opts calls = tt
  whole_none (Ok m) h (Ok gs) (Err e) calls = tt
  whole_none (Ok m) h (Ok gs) (Ok os) calls = on_bare calls gs os m h

  taken_none : (opt : Optional) (s : Sense) → SenseNone w s → (ss : List Sense) (os : List (Bytes × Sense)) → GivesNone (taking (arguments argument 0) opt by_groups rule (s ∷ ss) os w [])
  taken_none opt s h ss os =
      subst (λ a. GivesNone ((a >>= λ g. arguments argument 1 ss w [] >>= λ gs. Ok (g ∷ gs)) >>= λ gs. options opt os w [] >>= λ ps. by_groups w.array_limit (λ hs. rule w (calls_of (s ∷ ss) w []) hs ps) gs))
      (sym (argument_is s h.0 w)) (whole_none (value s w []) h.1 (arguments argument 1 ss w []) (options opt os w []) (calls_of (s ∷ ss) w []))

stage_none : (w : World) (o : Op) → is_stage o ≡ true → (s : Sense) → SenseNone w s → (ss : List Sense) (os : List (Bytes × Sense)) → SenseNone w (sense_of o (s ∷ ss) os)
stage_none w op.Map h s c ss os = fits_none w op.Map (s ∷ ss) os (tt, taken_none like (like_first map_rule) map_stage go_by_element.maps likes w option s c ss os)
stage_none w op.Filter h s c ss os = fits_none w op.Filter (s ∷ ss) os (tt, taken_none alike (alike_first filter_rule) filter_stage go_by_element.filters alikes w default_option s c ss os)
stage_none w op.Pluck h s c ss os = fits_none w op.Pluck (s ∷ ss) os (tt, taken_none like (by_patterns pluck) (pattern_stage pluck) go_by_element.plucks likes w option s c ss os)
stage_none w op.Without h s c ss os = fits_none w op.Without (s ∷ ss) os (tt, taken_none like (by_patterns without) (pattern_stage without) go_by_element.withouts likes w option s c ss os)
stage_none w op.Merge h s c ss os = fits_none w op.Merge (s ∷ ss) os (tt, taken_none like merge_rule merge_stage go_by_element.merges likes w option s c ss os)
stage_none w op.HasFields h s c ss os = fits_none w op.HasFields (s ∷ ss) os (tt, taken_none like has_fields_rule having_stage go_by_element.havings likes w option s c ss os)
stage_none w op.WithFields h s c ss os = fits_none w op.WithFields (s ∷ ss) os (tt, taken_none like (like_first with_fields) with_fields_stage go_by_element.with_all likes w option s c ss os)
stage_none w o h s c ss os = absurd (cc (h))

-- ---- what was read of BETWEEN's arguments and options
record Read (key name : Bytes) (l h : Form) (ms : NamedForms) (part : Part) : Type 0 where
  index : Option Bytes
  bottom : Plain
  top : Plain
  os : Options
  bottom_open : Bool
  top_open : Bool
  index_is : index_in ms ≡ Ok index
  by_index : same_text (index_by key index) name ≡ true
  low : ClosedArgument l bottom × (may_bound bottom ≡ true)
  high : ClosedArgument h top × (may_bound top ≡ true)
  given_are : closed_options (named_parts ms) ≡ Ok os
  low_is : left_is_open os ≡ Ok bottom_open
  high_is : right_is_open os ≡ Ok top_open
  is : between bottom bottom_open top top_open ≡ part

read_between : (key name : Bytes) (n : ℕ) (l h : Form) (ms : NamedForms) (part : Part) → part_between key name (slot n ∷ l ∷ h ∷ []) ms ≡ Ok part → Read key name l h ms part
read_between key name n l h ms part is =
    let i = then_ok (index_in ms) (λ x. if same_text (index_by key x) name then bounds l h (named_parts ms) else Err misplaced) part is in
    let b = if_ok (same_text (index_by key i.0) name) (bounds l h (named_parts ms)) misplaced part i.2 in
    let fit : Bool = list_all (λ (m : Bytes × Form). takes op.Between m.0) (named_parts ms) in
    let x = then_ok (closed_value l >>= key_if may_bound)
    (λ bottom. closed_value h >>= key_if may_bound >>= λ top. closed_options (named_parts ms) >>= λ os. left_is_open os >>= λ lo. right_is_open os >>= λ ho. if fit then Ok (between bottom lo top ho) else Err misplaced) part b.1 in
    let y = then_ok (closed_value h >>= key_if may_bound)
    (λ top. closed_options (named_parts ms) >>= λ os. left_is_open os >>= λ lo. right_is_open os >>= λ ho. if fit then Ok (between x.0 lo top ho) else Err misplaced) part x.2 in
    let o = then_ok (closed_options (named_parts ms)) (λ os. left_is_open os >>= λ lo. right_is_open os >>= λ ho. if fit then Ok (between x.0 lo y.0 ho) else Err misplaced) part y.2 in
    let lo = then_ok (left_is_open o.0) (λ lo. right_is_open o.0 >>= λ ho. if fit then Ok (between x.0 lo y.0 ho) else Err misplaced) part o.2 in
    let ho = then_ok (right_is_open o.0) (λ ho. if fit then Ok (between x.0 lo.0 y.0 ho) else Err misplaced) part lo.2 in
    let f = if_ok fit (Ok (between x.0 lo.0 y.0 ho.0)) misplaced part ho.2 in
    record {
      index = i.0;
      bottom = x.0;
      top = y.0;
      os = o.0;
      bottom_open = lo.0;
      top_open = ho.0;
      index_is = i.1;
      by_index = b.0;
      low = closed_key may_bound l x.0 x.1;
      high = closed_key may_bound h y.0 y.1;
      given_are = o.1;
      low_is = lo.1;
      high_is = ho.1;
      is = same_ok (between x.0 lo.0 y.0 ho.0) part f.1;
    }

-- ---- the keys of GET_ALL
record ClosedArguments (fs : Forms) (ks : List Plain) (at : ℕ) (w : World) : Type 0 where
  gave : List Given
  is : arguments argument at (form_senses fs) w [] ≡ Ok gave
  data_are : as_data gave ≡ Ok ks

closed_arguments : (fs : Forms) (ks : List Plain) → each closed_value (parts fs) ≡ Ok ks → (at : ℕ) (w : World) → IsLikeBare w → ClosedArguments fs ks at w
closed_arguments no_forms ks h at w like = record { gave = []; is = refl; data_are = h }
closed_arguments (form f fs) ks h at w like =
    let d = then_ok (closed_value f) (λ d. each closed_value (parts fs) >>= λ ds. Ok (d ∷ ds)) ks h in
    let ds = then_ok (each closed_value (parts fs)) (λ ds. Ok (d.0 ∷ ds)) ks d.2 in
    let c = closed_argument f d.0 d.1 in
    let cs = closed_arguments fs ds.0 ds.1 (suc at) w like in
    record {
      gave = given c.meant ∷ cs.gave;
      is = rw (c.is at w like []) (rw cs.is refl);
      data_are = rw c.datum (rw cs.data_are ds.2);
    }

same_keys : (ks keys : List Plain) → each (key_if is_storable) ks ≡ Ok keys → ks ≡ keys
same_keys [] keys h = same_ok [] keys h
same_keys (k ∷ ks) keys h =
    let d = then_ok (key_if is_storable k) (λ d. each (key_if is_storable) ks >>= λ ds. Ok (d ∷ ds)) keys h in
    let b = if_ok (is_storable k) (Ok k) (not_a_key (type_name k)) d.0 d.1 in
    let ds = then_ok (each (key_if is_storable) ks) (λ ds. Ok (d.0 ∷ ds)) keys d.2 in
    (λ i. same_ok k d.0 b.1 i ∷ same_keys ks ds.0 ds.1 i) ∙ same_ok (d.0 ∷ ds.0) keys ds.2

-- ---- entries of which none passes a test
neither_one : (a b c d e : Bool) → (a || b) || e ≡ false → (e ≡ false → (c ≡ false) × (d ≡ false)) → (a || c ≡ false) × (b || d ≡ false)
neither_one true b c d e h rest = absurd (cc (h))
neither_one false true c d e h rest = absurd (cc (h))
neither_one false false c d e h rest = rest h

swapped : (a b c : Bool) → a || (b || c) ≡ b || (a || c)
swapped true true c = refl
swapped true false c = refl
swapped false b c = refl

module _ {A : Type 0} where
  passed_over : (b c : Bool) (x : A) (r : List A) → b || c ≡ false → (c ≡ false → r ≡ []) → cond b (x ∷ r) r ≡ []
  passed_over true c x r h rest = absurd (cc (h))
  passed_over false c x r h rest = rest h

  none_kept : (p : A → Bool) (xs : List A) → list_any p xs ≡ false → filter p xs ≡ []
  none_kept p [] h = refl
  none_kept p (x ∷ xs) h = passed_over (p x) (list_any p xs) x (filter p xs) h (none_kept p xs)

  neither : (p q : A → Bool) (xs : List A) → list_any (λ x. p x || q x) xs ≡ false → (list_any p xs ≡ false) × (list_any q xs ≡ false)
  neither p q [] h = (refl, refl)
  neither p q (x ∷ xs) h = neither_one (p x) (q x) (list_any p xs) (list_any q xs) (list_any (λ x. p x || q x) xs) h (neither p q xs)

  placed_by : (p : A → Bool) (b : Bool) (x y : A) (xs ys : List A) → list_any p xs ≡ p x || list_any p ys → list_any p (if b then y ∷ xs else x ∷ y ∷ ys) ≡ p x || (p y || list_any p ys)
  placed_by p true x y xs ys h = ap (λ z. p y || z) h ∙ swapped (p y) (p x) (list_any p ys)
  placed_by p false x y xs ys h = refl

  any_placed : (p : A → Bool) (c : A → A → Ordering) (x : A) (xs : List A) → list_any p (into_place c x xs) ≡ p x || list_any p xs
  any_placed p c x [] = refl
  any_placed p c x (y ∷ ys) = placed_by p (is_lt (c y x)) x y (into_place c x ys) ys (any_placed p c x ys)

  -- a sort has just its elements
  any_sorted : (p : A → Bool) (c : A → A → Ordering) (xs : List A) → list_any p (sorted c xs) ≡ list_any p xs
  any_sorted p c [] = refl
  any_sorted p c (x ∷ xs) = any_placed p c x (sorted c xs) ∙ ap (λ z. p x || z) (any_sorted p c xs)

module _ {A B : Type 0} where
  any_mapped : (p : B → Bool) (f : A → B) (xs : List A) → list_any p (map f xs) ≡ list_any (λ x. p (f x)) xs
  any_mapped p f [] = refl
  any_mapped p f (x ∷ xs) = ap (λ z. p (f x) || z) (any_mapped p f xs)

  mapped_some : (f : A → B) (o : Option A) (y : B) → option_map f o ≡ Some y → (x : A) × (o ≡ Some x) × (f x ≡ y)
  mapped_some f None y h = absurd (cc (h))
  mapped_some f (Some x) y h = (x, refl, cc (h))

module _ {A : Type 0} where
  if_some : (b : Bool) (o : Option A) (x : A) → (if b then o else None) ≡ Some x → (b ≡ true) × (o ≡ Some x)
  if_some true o x h = (refl, h)
  if_some false o x h = absurd (cc (h))

  found_ok : (a : Answer A) (x : A) → found a ≡ Some x → a ≡ Ok x
  found_ok (Ok y) x h = let e : y ≡ x = cc (h) in ap Ok e
  found_ok (Err e) x h = absurd (cc (h))

abbrev NoneAt : Places → List Entry → Type 0
NoneAt p es = list_any (λ (e : Entry). holds p e.0) es ≡ false

no_entries : (ks : List Plain) (es : List Entry) → NoneAt (at_keys ks) es → all_of ks es ≡ []
no_entries [] es h = refl
no_entries (k ∷ ks) es h =
    let n = neither (λ (e : Entry). is_eq (order k e.0)) (λ (e : Entry). list_any (λ j. is_eq (order j e.0)) ks) es h in
    (λ i. documents_in (none_kept (λ (e : Entry). is_eq (order k e.0)) es n.0 i) ++ no_entries ks es n.1 i)

-- the entries of the only document of a table
entries_none : (p : Places) (i : Index) (m : Document) → list_any (holds p) (values_by (Some i) m) ≡ false → NoneAt p (index_list (m ∷ []) i)
entries_none p i m h =
    any_sorted (λ (e : Entry). holds p e.0) entry_order (document_entries i m ++ [])
    ∙ ap (list_any (λ (e : Entry). holds p e.0)) (append-nil (document_entries i m))
    ∙ any_mapped (λ (e : Entry). holds p e.0) (λ v. (v, m)) (entries i m.1) ∙ h

-- ---- a world of one table
module _ (w : World) (like_w : IsLikeBare w) (key : Bytes) (t : View) (key_is : t.key ≡ key) (only : (k : ℕ) (u : View) → view_at w k ≡ Ok u → t ≡ u) where
  no_table : (k : ℕ) (e : Reason) → view_at w k ≡ Err e → (rule : Rule) (ss : List Sense) (os : List (Bytes × Sense)) → GivesNone (strict rule (plain (table_of k) ∷ ss) os w [])
  no_table k e h rule ss os = rw h tt

  -- by the index of a name, which has these entries
  module _ (name : Bytes) (es : List Entry) (entries_are : entries_named t name ≡ Ok es) where
    named_so : (index : Option Bytes) → same_text (index_by key index) name ≡ true → unwrap_or index t.key ≡ name
    named_so index h = ap (unwrap_or index) key_is ∙ same_names (index_by key index) name h

    -- BETWEEN
    bare_slice : (k : ℕ) (b : Bounds) (ds : List Entry) → ds ≡ [] → GivesNone (Ok (selection k (slice_between b) (documents_in ds)))
    bare_slice k b ds h = subst (λ x. is_bare (selection k (slice_between b) (documents_in x)) ≡ true) (sym h) refl

    between_at : (k : ℕ) (l h : Form) (ms : NamedForms) (part : Part) (r : Read key name l h ms part) → NoneAt (in_part (between r.bottom r.bottom_open r.top r.top_open)) es → (a : Answer View) → view_at w k ≡ a
        → GivesNone (strict between_rule (plain (table_of k) ∷ sense l ∷ sense h ∷ []) (named_senses ms) w [])
    between_at k l h ms part r off (Err e) at = no_table k e at between_rule (sense l ∷ sense h ∷ []) (named_senses ms)
    between_at k l h ms part r off (Ok u) at =
        let here : view_at w k ≡ Ok t = at ∙ ap Ok (sym (only k u at)) in
        let options_are = closed_given ms r.os r.given_are w like_w [] in
        let given_is = between_given w k t (sense l) (sense h) (named_senses ms) r.low.0.meant r.high.0.meant r.bottom r.top r.os r.index r.bottom_open r.top_open name es
        here (r.low.0.is 1 w like_w []) r.low.0.datum r.low.1 (r.high.0.is 2 w like_w []) r.high.0.datum r.high.1
        options_are (text_named (codes "index") ms r.index r.os w r.index_is options_are) r.low_is r.high_is (named_so r.index r.by_index) entries_are in
        subst GivesNone (sym given_is) (bare_slice k (bounds_of name r.bottom r.bottom_open r.top r.top_open) (bounded (bounds_of name r.bottom r.bottom_open r.top r.top_open) es)
        (none_kept (λ (e : Entry). is_above r.bottom_open r.bottom e.0 && is_below r.top_open r.top e.0) es off))

    between_none : (k : ℕ) (l h : Form) (ms : NamedForms) (part : Part) → Read key name l h ms part → NoneAt (in_part part) es → SenseNone w (sense (operation op.Between (form (slot k) (form l (form h no_forms))) ms))
    between_none k l h ms part r off =
        fits_none w op.Between (plain (table_of k) ∷ sense l ∷ sense h ∷ []) (named_senses ms)
        (tt, between_at k l h ms part r (subst (λ p. NoneAt (in_part p) es) (sym r.is) off) (view_at w k) refl)

    between_is : (o : Op) → is_between o ≡ true → op.Between ≡ o
    between_is op.Between h = refl
    between_is o h = absurd (cc (h))

    read_none : (o : Op) (fs : Forms) (ms : NamedForms) (part : Part) → is_between o ≡ true → part_between key name (parts fs) ms ≡ Ok part → NoneAt (in_part part) es → SenseNone w (sense (operation o fs ms))
    read_none o (form (slot k) (form l (form h no_forms))) ms part is e off =
        subst (λ p. SenseNone w (sense (operation p (form (slot k) (form l (form h no_forms))) ms))) (between_is o is) (between_none k l h ms part (read_between key name k l h ms part e) off)
    read_none o no_forms ms part is e off = absurd (cc (e))
    read_none o (form f fs) ms part is e off = absurd (cc (e))

    part_none : (o : Op) (fs : Forms) (ms : NamedForms) (part : Part) → part_in key name (operation o fs ms) ≡ Some part → NoneAt (in_part part) es → SenseNone w (sense (operation o fs ms))
    part_none o fs ms part is off =
        let e = found_ok (part_of key name (operation o fs ms)) part (part_read key name (operation o fs ms) ∙ is) in
        let b = if_ok (is_between o) (part_between key name (parts fs) ms) misplaced part e in
        read_none o fs ms part b.0 b.1 off

    -- GET_ALL
    bare_rows : (k : ℕ) (limit : ℕ) (ds : List Plain) → ds ≡ [] → GivesNone (sized limit (selection k some_rows ds))
    bare_rows k limit ds h = subst (λ x. GivesNone (sized limit (selection k some_rows x))) (sym h) refl

    keys_at : (k : ℕ) (index : Option Bytes) (keys ks : List Plain) → unwrap_or index t.key ≡ name → ks ≡ keys → NoneAt (at_keys ks) es
        → GivesNone ((entries_by t index >>= λ xs. Ok (selection k some_rows (all_of keys xs))) >>= sized w.array_limit)
    keys_at k index keys ks so same off =
        let e : entries_by t index ≡ Ok es = ap (entries_named t) so ∙ entries_are in
        rw e (bare_rows k w.array_limit (all_of keys es) (no_entries keys es (subst (λ x. NoneAt (at_keys x) es) same off)))

    storable_at : (k : ℕ) (index : Option Bytes) (ks : List Plain) → unwrap_or index t.key ≡ name → NoneAt (at_keys ks) es → (a : Answer (List Plain)) → each (key_if is_storable) ks ≡ a
        → GivesNone ((a >>= λ keys. entries_by t index >>= λ xs. Ok (selection k some_rows (all_of keys xs))) >>= sized w.array_limit)
    storable_at k index ks so off (Err e) is = tt
    storable_at k index ks so off (Ok keys) is = keys_at k index keys ks so (same_keys ks keys is) off

    all_rule : (calls : Calls) (k : ℕ) (gs : List Given) (ks : List Plain) (os : Options) (index : Option Bytes) → view_at w k ≡ Ok t → as_data gs ≡ Ok ks → index_text os ≡ Ok index
        → get_all_rule w calls (given (table k) ∷ gs) os ≡ (each (key_if is_storable) ks >>= λ keys. entries_by t index >>= λ xs. Ok (selection k some_rows (all_of keys xs)))
    all_rule calls k gs ks os index at is by = rw at (rw is (rw by refl))

    taken_is : (rule : Rule) (k : ℕ) (ss : List Sense) (xs : List (Bytes × Sense)) (gs : List Given) (os : Options) → view_at w k ≡ Ok t → arguments argument 1 ss w [] ≡ Ok gs → options option xs w [] ≡ Ok os
        → strict rule (plain (table_of k) ∷ ss) xs w [] ≡ (rule w (calls_of (plain (table_of k) ∷ ss) w []) (given (table k) ∷ gs) os >>= sized w.array_limit)
    taken_is rule k ss xs gs os at is by = rw (at, is, by) refl

    no_choices : (rule : Rule) (k : ℕ) (ss : List Sense) (xs : List (Bytes × Sense)) (gs : List Given) (e : Reason) → view_at w k ≡ Ok t → arguments argument 1 ss w [] ≡ Ok gs → options option xs w [] ≡ Err e
        → GivesNone (strict rule (plain (table_of k) ∷ ss) xs w [])
    no_choices rule k ss xs gs e at is by = rw (at, is, by) tt

    module _ (k : ℕ) (fs : Forms) (ks : List Plain) (is : each closed_value (parts fs) ≡ Ok ks) (ms : NamedForms) (index : Option Bytes) (index_is : index_in ms ≡ Ok index) (so : unwrap_or index t.key ≡ name) (off : NoneAt (at_keys ks) es) where
      chosen_at : view_at w k ≡ Ok t → ClosedArguments fs ks 1 w → (o : Answer Options) → options option (named_senses ms) w [] ≡ o → GivesNone (strict get_all_rule (plain (table_of k) ∷ form_senses fs) (named_senses ms) w [])
      chosen_at here c (Err e) by = no_choices get_all_rule k (form_senses fs) (named_senses ms) c.gave e here c.is by
      chosen_at here c (Ok os) by =
          subst GivesNone (sym (taken_is get_all_rule k (form_senses fs) (named_senses ms) c.gave os here c.is by
          ∙ ap (λ a. a >>= sized w.array_limit) (all_rule (calls_of (plain (table_of k) ∷ form_senses fs) w []) k c.gave ks os index here c.data_are (text_named (codes "index") ms index os w index_is by))))
          (storable_at k index ks so off (each (key_if is_storable) ks) refl)

      all_at : (a : Answer View) → view_at w k ≡ a → GivesNone (strict get_all_rule (plain (table_of k) ∷ form_senses fs) (named_senses ms) w [])
      all_at (Err e) at = no_table k e at get_all_rule (form_senses fs) (named_senses ms)
      all_at (Ok u) at = chosen_at (at ∙ ap Ok (sym (only k u at))) (closed_arguments fs ks is 1 w like_w) (options option (named_senses ms) w []) refl

      all_none : SenseNone w (sense (operation op.GetAll (form (slot k) fs) ms))
      all_none = fits_none w op.GetAll (plain (table_of k) ∷ form_senses fs) (named_senses ms) (tt, all_at (view_at w k) refl)

    keys_found : (fs : Forms) (ks : List Plain) → keys_over fs ≡ Some ks → (ms : NamedForms) (a : Answer (Option Bytes)) → index_in ms ≡ a → names_by key name a ≡ true → NoneAt (at_keys ks) es → SenseNone w (sense (operation op.GetAll fs ms))
    keys_found (form (slot k) fs) ks is ms (Ok index) at by off = all_none k fs ks (found_ok (each closed_value (parts fs)) ks is) ms index at (named_so index by) off
    keys_found fs ks is ms (Err e) at by off = absurd (cc (by))
    keys_found no_forms ks is ms (Ok index) at by off = absurd (cc (is))
    keys_found (form f fs) ks is ms (Ok index) at by off = absurd (cc (is))

    get_all_is : (o : Op) → is_get_all o ≡ true → op.GetAll ≡ o
    get_all_is op.GetAll h = refl
    get_all_is o h = absurd (cc (h))

    keys_none : (o : Op) (fs : Forms) (ms : NamedForms) (ks : List Plain) → is_get_all o ≡ true → keys_in key name fs ms ≡ Some ks → NoneAt (at_keys ks) es → SenseNone w (sense (operation o fs ms))
    keys_none o fs ms ks all is off =
        let b = if_some (names_by key name (index_in ms)) (keys_over fs) ks is in
        subst (λ p. SenseNone w (sense (operation p fs ms))) (get_all_is o all) (keys_found fs ks b.1 ms (index_in ms) refl b.0 off)

    -- either of them
    places_at : (o : Op) (fs : Forms) (ms : NamedForms) (p : Places) (b : Bool) → is_get_all o ≡ b → (if b then option_map at_keys (keys_in key name fs ms) else option_map in_part (part_in key name (operation o fs ms))) ≡ Some p → NoneAt p es
        → SenseNone w (sense (operation o fs ms))
    places_at o fs ms p true all is off =
        let ks = mapped_some at_keys (keys_in key name fs ms) p is in
        keys_none o fs ms ks.0 all ks.1 (subst (λ x. NoneAt x es) (sym ks.2) off)
    places_at o fs ms p false all is off =
        let part = mapped_some in_part (part_in key name (operation o fs ms)) p is in
        part_none o fs ms part.0 part.1 (subst (λ x. NoneAt x es) (sym part.2) off)

    places_none : (o : Op) (fs : Forms) (ms : NamedForms) (p : Places) → places_in key name o fs ms ≡ Some p → NoneAt p es → SenseNone w (sense (operation o fs ms))
    places_none o fs ms p is off = places_at o fs ms p (is_get_all o) refl is off

  -- ---- of one document
  module _ (indexes : Indexes) (m : Document) (primary_is : entries_named t key ≡ Ok (primary (m ∷ []))) (index_is : (name : Bytes) (i : Index) → same_text name key ≡ false → find name indexes ≡ Some i → entries_named t name ≡ Ok (index_list (m ∷ []) i)) where
    -- an index that is named as the key field is has no places of its own
    other_name : (o : Op) (fs : Forms) (ms : NamedForms) (name : Bytes) (p : Places) → places_in key key o fs ms ≡ None → places_in key name o fs ms ≡ Some p → (b : Bool) → same_text name key ≡ b → same_text name key ≡ false
    other_name o fs ms name p none is false b_is = b_is
    other_name o fs ms name p none is true b_is =
        let e : None ≡ Some p = sym none ∙ ap (λ x. places_in key x o fs ms) (sym (same_names name key b_is)) ∙ is in
        absurd (cc (e))

    first_found : (d : Bytes × Index) (ds : Indexes) → find d.0 (d ∷ ds) ≡ Some d.1
    first_found d ds = ap (λ b. cond b (Some d.1) (find d.0 ds)) (same_name d.0)

    index_at : (o : Op) (fs : Forms) (ms : NamedForms) (d : Bytes × Index) (ds : Indexes) → indexes ≡ d ∷ ds → places_in key key o fs ms ≡ None → (q : Option Places) → places_in key d.0 o fs ms ≡ q → may_hold (placed (Some d.1) q everything) m ≡ false
        → SenseNone w (sense (operation o fs ms))
    index_at o fs ms d ds are none None is off = absurd (cc (off))
    index_at o fs ms d ds are none (Some p) is off =
        let other = other_name o fs ms d.0 p none is (same_text d.0 key) refl in
        let there = index_is d.0 d.1 other (ap (find d.0) are ∙ first_found d ds) in
        places_none d.0 (index_list (m ∷ []) d.1) there o fs ms p is (entries_none p d.1 m off)

    index_none : (o : Op) (fs : Forms) (ms : NamedForms) (ds : Indexes) → indexes ≡ ds → places_in key key o fs ms ≡ None → may_hold (index_source key ds o fs ms) m ≡ false → SenseNone w (sense (operation o fs ms))
    index_none o fs ms [] are none off = absurd (cc (off))
    index_none o fs ms (d ∷ ds) are none off = index_at o fs ms d ds are none (places_in key d.0 o fs ms) refl off

    base_at : (o : Op) (fs : Forms) (ms : NamedForms) (q : Option Places) → places_in key key o fs ms ≡ q → may_hold (placed None q (index_source key indexes o fs ms)) m ≡ false → SenseNone w (sense (operation o fs ms))
    base_at o fs ms None is off = index_none o fs ms indexes refl is off
    base_at o fs ms (Some p) is off = places_none key (primary (m ∷ [])) primary_is o fs ms p is off

    by_stage : (o : Op) (b : Bool) (x y : Source) (X : Type 0) → is_stage o ≡ b → may_hold (if b then x else y) m ≡ false → (is_stage o ≡ true → may_hold x m ≡ false → X) → (may_hold y m ≡ false → X) → X
    by_stage o true x y X is off f g = f is off
    by_stage o false x y X is off f g = g off

    mutual
      none_in : (f : Form) → may_hold (source_in key indexes f) m ≡ false → SenseNone w (sense f)
      none_in (operation o fs ms) off =
          by_stage o (is_stage o) (first_source key indexes fs) (base_source key indexes o fs ms) (SenseNone w (sense (operation o fs ms))) refl off (λ is h. first_none o is fs ms h)
          (λ h. base_at o fs ms (places_in key key o fs ms) refl h)
      none_in (literal d) off = absurd (cc (off))
      none_in (several fs) off = absurd (cc (off))
      none_in (keyed ms) off = absurd (cc (off))
      none_in (variable id) off = absurd (cc (off))
      none_in implicit off = absurd (cc (off))
      none_in (function ids body) off = absurd (cc (off))
      none_in (slot k) off = absurd (cc (off))

      first_none : (o : Op) → is_stage o ≡ true → (fs : Forms) (ms : NamedForms) → may_hold (first_source key indexes fs) m ≡ false → SenseNone w (sense (operation o fs ms))
      first_none o is no_forms ms off = absurd (cc (off))
      first_none o is (form f fs) ms off = stage_none w o is (sense f) (none_in f off) (form_senses fs) (named_senses ms)

-- ---- the rows of a term
settled_none : (w : World) (a : Answer Meant) → GivesNone a → answered (settled a >>= to_sequence w) ≡ []
settled_none w (Ok m) h = ap answered (no_rows m h w)
settled_none w (Err no_text) h = refl
settled_none w (Err (query_logic x)) h = refl
settled_none w (Err (non_existence x)) h = refl
settled_none w (Err (resource_limit x)) h = refl
settled_none w (Err (op_failed x)) h = refl
settled_none w (Err (user x)) h = refl

one_view : (b : Bool) (t u : View) → (if b then Ok t else Err misplaced) ≡ Ok u → t ≡ u
one_view true t u h = same_ok t u h
one_view false t u h = absurd (cc (h))

index_there : (docs : List Document) (key name : Bytes) (indexes : Indexes) (i : Index) → same_text name key ≡ false → find name indexes ≡ Some i → entries_named (plain_view [] 0 [] key docs indexes) name ≡ Ok (index_list docs i)
index_there docs key name indexes i other there = rw other (rw there refl)

pub left_out : (key : Bytes) (n : ℕ) (f : Form) (indexes : Indexes) → LeavesOut key n f indexes (source_in key indexes f)
left_out key n f indexes m off =
    let t : View = plain_view [] 0 [] key (m ∷ []) indexes in
    let w : World = over bare_world n (plain_view [] 0 [] key [] indexes) (m ∷ []) in
    let primary_is : entries_named t key ≡ Ok (primary (m ∷ [])) = rw (same_name key) refl in
    let none = none_in w (like_bare w refl refl) key t refl (λ k u at. one_view (nat_eq k n) t u at) indexes m primary_is (λ name i. index_there (m ∷ []) key name indexes i) f off in
    ap length (settled_none w (value (sense f) w []) none.1)

pub read_leaves_out : (key own : Bytes) (n : ℕ) (f asked : Form) (indexes kept : Indexes) (s : Source) → key ≡ own → f ≡ asked → indexes ≡ kept → s ≡ source_in own kept asked → LeavesOut key n f indexes s
read_leaves_out key own n f asked indexes kept s k e x is = subst (LeavesOut key n f indexes) (sym (is ∙ (λ i. source_in (sym k i) (sym x i) (sym e i)))) (left_out key n f indexes)
