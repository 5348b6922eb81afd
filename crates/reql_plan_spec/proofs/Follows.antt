-- What CHANGES asks of a table is followed.
use Rattle.std.proofs.Common.{◌≡◌, ℕ, suc, nat_eq, nat_le, List, [], ◌∷◌, Bool, true, false, ◌&&◌, ◌||◌, not, if◌then◌else◌, Option, Some, None, Ok, Err, refl, sym, ap, subst, ◌∙◌, ◌⊎◌, inl, inr, arith}
use Rattle.reql_datum.specs.Answer.{Answer, ◌>>=◌, Reason}
use Rattle.reql_datum.specs.Keys.{is_key}
use Rattle.reql_datum.specs.Members.{find}
use Rattle.reql_datum.specs.Plain.{Plain}
use Rattle.reql_term.specs.Form.{Form, literal, several, keyed, variable, implicit, function, slot, operation, Forms, no_forms, form, NamedForms, no_named, named, forms_of, named_of}
use Rattle.reql_term.specs.Table.{fits, way_of}
use Rattle.reql_term.specs.Views.{Index}
use Rattle.reql_term.specs.declared.op.Op.{Op}
use Rattle.reql_term.specs.declared.op.Op.TheVariants as op
use Rattle.reql_faults.specs.Places.{first, count}
use Rattle.reql_faults.specs.Shapes.{part_of, is_table_part, is_table_at, range_by, is_range, is_first_range, is_order_at, are_arms, shape_if, shape}
use Rattle.reql_faults.specs.declared.shape.Shape.{Shape}
use Rattle.reql_faults.specs.declared.shape.Shape.TheVariants as shapes
use Rattle.reql_rules.specs.Lists.{Bytes}
use Rattle.reql_rules.specs.Types.{same_text}
use Rattle.reql_value_spec.specs.Shapes.{is_stage, is_part}
use Rattle.reql_value_spec.specs.Tables.{key_if}
use Rattle.reql_value_spec.specs.World.{World}
use Rattle.reql_feed_spec.specs.Kept.{is_free, are_free, fields_free, is_shape, on_shape, on_table, by_key, by_shape, watch_of}
use Rattle.reql_feed_spec.specs.declared.kind.FeedKind.TheVariants as kinds
use Rattle.reql_table_spec.specs.Followed.{shape_index, followed, or_nothing}
use Rattle.reql_table_spec.specs.Indexes.{Indexes}
use Rattle.reql_table_spec.specs.Table as tables
use Rattle.reql_table_spec.specs.declared.command.FeedSpec.{FeedSpec}
use Rattle.reql_table_spec.proofs.Closed.{then_ok, same_ok}
use Rattle.reql_table_spec.proofs.Reading as reading
use Rattle.reql_table_spec.proofs.Reading.{both, itself}
use Rattle.reql_plan_spec.specs.declared.parts.Opening.{Opening}
use Rattle.reql_plan_spec.specs.Feeding.{Told, opening, datum_at, row_test}
use Rattle.reql_plan_spec.specs.Follows.{is_followed, IsRead, takes_all, is_fit, is_planned, are_planned, fields_planned, RangesAreRead, PointsAreRead}
use Rattle.reql_plan_spec.specs.Held.{Held}
use Rattle.reql_plan_spec.specs.Settled.{settled, first_settled, argument, arguments, named_arguments, datum_of, evaluated, kept_or, nothing_kept, keeps_argument, keeps_option, is_error}

-- ---- a feed keeps its request as it was asked
abbrev opened : FeedSpec → Indexes → Option tables.Held
opened spec kept = Some (record { spec = spec; indexes = kept })

keeps_spec : (spec : FeedSpec) (kept : Indexes) (h : tables.Held) → opened spec kept ≡ Some h → h.spec ≡ spec
keeps_spec spec kept h e = cc

unless_multi : (b : Bool) (spec : FeedSpec) (kept : Indexes) (h : tables.Held) → (if b then None else opened spec kept) ≡ Some h → h.spec ≡ spec
unless_multi true spec kept h e = absurd (cc (e))
unless_multi false spec kept h e = keeps_spec spec kept h e

spec_by : (spec : FeedSpec) (name : Bytes) (i : Option Index) (h : tables.Held) → tables.held_by spec name i ≡ Some h → h.spec ≡ spec
spec_by spec name None h e = absurd (cc (e))
spec_by spec name (Some i) h e = unless_multi (tables.is_limit spec.kind && i.1) spec ((name, i) ∷ []) h e

spec_named : (b : Bool) (spec : FeedSpec) (name : Bytes) (i : Option Index) (h : tables.Held) → (if b then opened spec [] else tables.held_by spec name i) ≡ Some h → h.spec ≡ spec
spec_named true spec name i h e = keeps_spec spec [] h e
spec_named false spec name i h e = spec_by spec name i h e

pub spec_at : (spec : FeedSpec) (indexes : Indexes) (index : Option Bytes) (h : tables.Held) → tables.held_at spec indexes index ≡ Some h → h.spec ≡ spec
spec_at spec indexes None h e = keeps_spec spec [] h e
spec_at spec indexes (Some name) h e = spec_named (same_text name spec.key) spec name (find name indexes) h e

abbrev pub Followed : FeedSpec → Indexes → Type 0
Followed spec indexes = is_followed (watch_of (followed spec indexes)) ≡ true

read_always : (spec : FeedSpec) → ((indexes : Indexes) → Followed spec indexes) → IsRead spec
read_always spec always indexes h e = subst (λ s. Followed s h.indexes) (sym (spec_at spec indexes spec.index h e)) (always h.indexes)

-- ---- arguments that are settled: a function stands as it is, an ERROR that is kept has no options, and all else is a literal
abbrev pub KeepsErrors : (Op → Bool) → Type 0
KeepsErrors keeps = (o : Op) → keeps o ≡ true → is_error (way_of o) ≡ true

pub nothing_stays : KeepsErrors nothing_kept
nothing_stays o h = absurd (cc (h))

pub both_are : (a b : Bool) → a ≡ true → b ≡ true → a && b ≡ true
both_are a b h k = rw (h, k) refl

no_options : (o : Op) (ms : NamedForms) → is_error (way_of o) ≡ true → takes_all o ms ≡ true → fields_free [] ms ≡ true
no_options o no_named e h = refl
no_options op.Error (named k f ms) e h = absurd (cc (h))
no_options o (named k f ms) e h = absurd (cc (e))

literal_free : (w : World) (f g : Form) → evaluated w f ≡ Ok g → is_free [] g ≡ true
literal_free w f g h =
    let d = then_ok (datum_of w f) (λ d. Ok (literal d)) g h in
    subst (λ x. is_free [] x ≡ true) (same_ok (literal d.0) g d.2) refl

kept_free : (b : Bool) (w : World) (o : Op) (fs : Forms) (ms : NamedForms) (g : Form) → (b ≡ true → fields_free [] ms ≡ true)
    → ((gs : List Form) → arguments nothing_kept w fs ≡ Ok gs → are_free [] (forms_of gs) ≡ true)
    → kept_or b (arguments nothing_kept w fs >>= λ gs. Ok (operation o (forms_of gs) ms)) (evaluated w (operation o fs ms)) ≡ Ok g → is_free [] g ≡ true
kept_free true w o fs ms g options below h =
    let a = then_ok (arguments nothing_kept w fs) (λ gs. Ok (operation o (forms_of gs) ms)) g h in
    subst (λ x. is_free [] x ≡ true) (same_ok (operation o (forms_of a.0) ms) g a.2) (both_are (are_free [] (forms_of a.0)) (fields_free [] ms) (below a.0 a.1) (options refl))
kept_free false w o fs ms g options below h = literal_free w (operation o fs ms) g h

-- what an operation has as planning leaves it
pub record Fits (o : Op) (fs : Forms) (ms : NamedForms) : Type 0 where
  pub looked_up : is_table_part (part_of o) ≡ false
  pub counted : fits o (count fs) ≡ true
  pub taken : takes_all o ms ≡ true
  pub arguments : are_planned fs ≡ true
  pub options : fields_planned ms ≡ true

is_not : (b : Bool) → not b ≡ true → b ≡ false
is_not true h = absurd (cc (h))
is_not false h = refl

pub planned_fits : (o : Op) (fs : Forms) (ms : NamedForms) → is_planned (operation o fs ms) ≡ true → Fits o fs ms
planned_fits o fs ms h =
    let p = both (is_fit o fs ms) (are_planned fs && fields_planned ms) h in
    let q = both (not (is_table_part (part_of o))) (fits o (count fs) && takes_all o ms) p.0 in
    let r = both (fits o (count fs)) (takes_all o ms) q.1 in
    let s = both (are_planned fs) (fields_planned ms) p.1 in
    record { looked_up = is_not (is_table_part (part_of o)) q.0; counted = r.0; taken = r.1; arguments = s.0; options = s.1 }

mutual
  argument_free : (keeps : Op → Bool) (w : World) (f g : Form) → KeepsErrors keeps → is_planned f ≡ true → argument keeps w f ≡ Ok g → is_free [] g ≡ true
  argument_free keeps w (function ids body) g k p h = subst (λ x. is_free [] x ≡ true) (same_ok (function ids body) g h) p
  argument_free keeps w (operation o fs ms) g k p h =
      let q = planned_fits o fs ms p in
      kept_free (keeps o) w o fs ms g (λ e. no_options o ms (k o e) q.taken) (λ gs e. arguments_free nothing_kept w fs gs nothing_stays q.arguments e) h
  argument_free keeps w (literal d) g k p h = literal_free w (literal d) g h
  argument_free keeps w (several fs) g k p h = literal_free w (several fs) g h
  argument_free keeps w (keyed ms) g k p h = literal_free w (keyed ms) g h
  argument_free keeps w (variable id) g k p h = literal_free w (variable id) g h
  argument_free keeps w implicit g k p h = literal_free w implicit g h
  argument_free keeps w (slot n) g k p h = literal_free w (slot n) g h

  arguments_free : (keeps : Op → Bool) (w : World) (fs : Forms) (gs : List Form) → KeepsErrors keeps → are_planned fs ≡ true → arguments keeps w fs ≡ Ok gs → are_free [] (forms_of gs) ≡ true
  arguments_free keeps w no_forms gs k p h = subst (λ x. are_free [] (forms_of x) ≡ true) (same_ok [] gs h) refl
  arguments_free keeps w (form f fs) gs k p h =
      let q = both (is_planned f) (are_planned fs) p in
      let a = then_ok (argument keeps w f) (λ g. arguments keeps w fs >>= λ rest. Ok (g ∷ rest)) gs h in
      let b = then_ok (arguments keeps w fs) (λ rest. Ok (a.0 ∷ rest)) gs a.2 in
      subst (λ x. are_free [] (forms_of x) ≡ true) (same_ok (a.0 ∷ b.0) gs b.2)
      (both_are (is_free [] a.0) (are_free [] (forms_of b.0)) (argument_free keeps w f a.0 k q.0 a.1) (arguments_free keeps w fs b.0 k q.1 b.1))

pub options_free : (keeps : Op → Bool) (w : World) (ms : NamedForms) (ns : List (Bytes × Form)) → KeepsErrors keeps → fields_planned ms ≡ true → named_arguments keeps w ms ≡ Ok ns → fields_free [] (named_of ns) ≡ true
options_free keeps w no_named ns k p h = subst (λ x. fields_free [] (named_of x) ≡ true) (same_ok [] ns h) refl
options_free keeps w (named name f ms) ns k p h =
    let q = both (is_planned f) (fields_planned ms) p in
    let a = then_ok (argument keeps w f) (λ g. named_arguments keeps w ms >>= λ rest. Ok ((name, g) ∷ rest)) ns h in
    let b = then_ok (named_arguments keeps w ms) (λ rest. Ok ((name, a.0) ∷ rest)) ns a.2 in
    subst (λ x. fields_free [] (named_of x) ≡ true) (same_ok ((name, a.0) ∷ b.0) ns b.2)
    (both_are (is_free [] a.0) (fields_free [] (named_of b.0)) (argument_free keeps w f a.0 k q.0 a.1) (options_free keeps w ms b.0 k q.1 b.1))

-- ---- ranges: a stage over a range, or a part of a table
record Ranged (o : Op) (on_table on_range : Bool) : Type 0 where
  kind : ((is_stage o ≡ true) × (on_range ≡ true)) ⊎ ((is_part o ≡ true) × (on_table ≡ true))
  arguments : KeepsErrors (keeps_argument (way_of o))
  options : KeepsErrors (keeps_option (way_of o))

ranged : (o : Op) (on_table on_range : Bool) → is_table_part (part_of o) ≡ false → range_by (part_of o) on_table on_range ≡ true → Ranged o on_table on_range
ranged op.Between t r p h = record { kind = inr (refl, h); arguments = λ o e. absurd (cc (e)); options = λ o e. absurd (cc (e)) }
ranged op.GetAll t r p h = record { kind = inr (refl, h); arguments = λ o e. absurd (cc (e)); options = λ o e. absurd (cc (e)) }
ranged op.Filter t r p h = record { kind = inl (refl, h); arguments = λ o e. absurd (cc (e)); options = λ o e. e }
ranged op.Map t r p h = record { kind = inl (refl, h); arguments = λ o e. absurd (cc (e)); options = λ o e. absurd (cc (e)) }
ranged op.Pluck t r p h = record { kind = inl (refl, h); arguments = λ o e. absurd (cc (e)); options = λ o e. absurd (cc (e)) }
ranged op.Without t r p h = record { kind = inl (refl, h); arguments = λ o e. absurd (cc (e)); options = λ o e. absurd (cc (e)) }
ranged op.Merge t r p h = record { kind = inl (refl, h); arguments = λ o e. absurd (cc (e)); options = λ o e. absurd (cc (e)) }
ranged op.HasFields t r p h = record { kind = inl (refl, h); arguments = λ o e. absurd (cc (e)); options = λ o e. absurd (cc (e)) }
ranged op.WithFields t r p h = record { kind = inl (refl, h); arguments = λ o e. absurd (cc (e)); options = λ o e. absurd (cc (e)) }
ranged op.Table t r p h = absurd (cc (p))
ranged o t r p h = absurd (cc (h))

abbrev Shaped : Form → Type 0
Shaped g = (n : ℕ) × (is_shape n g ≡ true)

abbrev FirstShaped : List Form → Type 0
FirstShaped gs = (n : ℕ) × (on_shape n (forms_of gs) ≡ true)

abbrev OnTable : List Form → Type 0
OnTable gs = (n : ℕ) × (on_table n (forms_of gs) ≡ true)

abbrev rest_settled : World → Op → Forms → Form → Answer (List Form)
rest_settled w o fs g = arguments (keeps_argument (way_of o)) w fs >>= λ gs. Ok (g ∷ gs)

-- the table that a part stands on
table_settled : (w : World) (o : Op) (f : Form) (fs : Forms) (gs : List Form) → KeepsErrors (keeps_argument (way_of o)) → is_table_at (Some f) ≡ true → is_planned f ≡ true → are_planned fs ≡ true
    → (settled row_test w f >>= rest_settled w o fs) ≡ Ok gs → OnTable gs
table_settled w o (slot n) fs gs k t p q h =
    let a = then_ok (arguments (keeps_argument (way_of o)) w fs) (λ rest. Ok (slot n ∷ rest)) gs h in
    subst OnTable (same_ok (slot n ∷ a.0) gs a.2) (n, both_are (nat_eq n n) (are_free [] (forms_of a.0)) (itself n) (arguments_free (keeps_argument (way_of o)) w fs a.0 k q a.1))
table_settled w o (operation p fs' ms) fs gs k t pl q h = absurd (let e : true ≡ false = sym t ∙ (planned_fits p fs' ms pl).looked_up in cc)
table_settled w o (literal d) fs gs k t p q h = absurd (cc (t))
table_settled w o (several gs') fs gs k t p q h = absurd (cc (t))
table_settled w o (keyed ms) fs gs k t p q h = absurd (cc (t))
table_settled w o (variable id) fs gs k t p q h = absurd (cc (t))
table_settled w o implicit fs gs k t p q h = absurd (cc (t))
table_settled w o (function ids body) fs gs k t p q h = absurd (cc (t))

part_settled : (w : World) (o : Op) (fs : Forms) (gs : List Form) → KeepsErrors (keeps_argument (way_of o)) → is_table_at (first fs) ≡ true → are_planned fs ≡ true → first_settled row_test w (way_of o) fs ≡ Ok gs → OnTable gs
part_settled w o no_forms gs k t p h = absurd (cc (t))
part_settled w o (form f fs) gs k t p h =
    let q = both (is_planned f) (are_planned fs) p in
    table_settled w o f fs gs k t q.0 q.1 h

-- a stage or a part, by what its first argument is
stage_shape : (o : Op) (gs : List Form) (ns : List (Bytes × Form)) → fields_free [] (named_of ns) ≡ true → is_stage o ≡ true → FirstShaped gs → Shaped (operation o (forms_of gs) (named_of ns))
stage_shape o gs ns free stage s = (s.0, rw (free, stage, s.1) refl)

or_right : (a b : Bool) → b ≡ true → a || b ≡ true
or_right true b h = refl
or_right false b h = h

part_shape : (o : Op) (gs : List Form) (ns : List (Bytes × Form)) → fields_free [] (named_of ns) ≡ true → is_part o ≡ true → OnTable gs → Shaped (operation o (forms_of gs) (named_of ns))
part_shape o gs ns free part s = (
  s.0,
  both_are (fields_free [] (named_of ns)) ((is_stage o && on_shape s.0 (forms_of gs)) || (is_part o && on_table s.0 (forms_of gs))) free
      (or_right (is_stage o && on_shape s.0 (forms_of gs)) (is_part o && on_table s.0 (forms_of gs)) (both_are (is_part o) (on_table s.0 (forms_of gs)) part s.1)),
)

mutual
  range_settled : (w : World) (f g : Form) → is_range f ≡ true → is_planned f ≡ true → settled row_test w f ≡ Ok g → Shaped g
  range_settled w (slot n) g r p h = subst Shaped (same_ok (slot n) g h) (n, itself n)
  range_settled w (operation o fs ms) g r p h =
      let q = planned_fits o fs ms p in
      let c = ranged o (is_table_at (first fs)) (is_first_range fs) q.looked_up r in
      let a = then_ok (first_settled row_test w (way_of o) fs) (λ gs. named_arguments (keeps_option (way_of o)) w ms >>= λ ns. row_test o gs ns >>= λ _. Ok (operation o (forms_of gs) (named_of ns))) g h in
      let b = then_ok (named_arguments (keeps_option (way_of o)) w ms) (λ ns. row_test o a.0 ns >>= λ _. Ok (operation o (forms_of a.0) (named_of ns))) g a.2 in
      let d = then_ok (row_test o a.0 b.0) (λ _. Ok (operation o (forms_of a.0) (named_of b.0))) g b.2 in
      let free : fields_free [] (named_of b.0) ≡ true = options_free (keeps_option (way_of o)) w ms b.0 c.options q.options b.1 in
      subst Shaped (same_ok (operation o (forms_of a.0) (named_of b.0)) g d.2) (elim c.kind [
        | inl s ↦ stage_shape o a.0 b.0 free s.0 (first_range_settled w o fs a.0 c.arguments s.1 q.arguments a.1)
        | inr s ↦ part_shape o a.0 b.0 free s.0 (part_settled w o fs a.0 c.arguments s.1 q.arguments a.1)
      ])
  range_settled w (literal d) g r p h = absurd (cc (r))
  range_settled w (several fs) g r p h = absurd (cc (r))
  range_settled w (keyed ms) g r p h = absurd (cc (r))
  range_settled w (variable id) g r p h = absurd (cc (r))
  range_settled w implicit g r p h = absurd (cc (r))
  range_settled w (function ids body) g r p h = absurd (cc (r))

  first_range_settled : (w : World) (o : Op) (fs : Forms) (gs : List Form) → KeepsErrors (keeps_argument (way_of o)) → is_first_range fs ≡ true → are_planned fs ≡ true → first_settled row_test w (way_of o) fs ≡ Ok gs → FirstShaped gs
  first_range_settled w o no_forms gs k r p h = absurd (cc (r))
  first_range_settled w o (form f fs) gs k r p h =
      let q = both (is_planned f) (are_planned fs) p in
      let a = then_ok (settled row_test w f) (rest_settled w o fs) gs h in
      let s = range_settled w f a.0 r q.0 a.1 in
      let b = then_ok (arguments (keeps_argument (way_of o)) w fs) (λ rest. Ok (a.0 ∷ rest)) gs a.2 in
      subst FirstShaped (same_ok (a.0 ∷ b.0) gs b.2) (s.0, both_are (is_shape s.0 a.0) (are_free [] (forms_of b.0)) s.1 (arguments_free (keeps_argument (way_of o)) w fs b.0 k q.1 b.1))

shape_followed : (key : Bytes) (indexes : Indexes) (n : ℕ) (f : Form) → is_shape n f ≡ true → is_followed (watch_of (by_shape key indexes n f)) ≡ true
shape_followed key indexes n f h = rw h refl

range_read : (e : Held) (t : Told) (n : ℕ) (f : Form) (index : Option Bytes) → is_shape n f ≡ true → shape_index f ≡ Ok index → IsRead (opening e t f index kinds.Range).spec
range_read e t n f None s i =
    let spec : FeedSpec = (opening e t f None kinds.Range).spec in
    read_always spec (λ indexes. ap (λ k. is_followed (watch_of k)) (reading.ranges spec indexes n f s i) ∙ shape_followed spec.key indexes n f s)
range_read e t n f (Some name) s i =
    let spec : FeedSpec = (opening e t f (Some name) kinds.Range).spec in
    read_always spec (λ indexes. ap (λ k. is_followed (watch_of k)) (reading.named_ranges spec indexes n f name s i) ∙ shape_followed spec.key indexes n f s)

pub ranges_are_read : RangesAreRead
ranges_are_read e t f g o r p s h =
    let i = then_ok (shape_index g) (λ index. Ok (opening e t g index kinds.Range)) o h in
    let shape = range_settled e.world f g r p s in
    subst (λ (x : Opening). IsRead x.spec) (same_ok (opening e t g i.0 kinds.Range) o i.2) (range_read e t shape.0 g i.0 shape.1 i.1)

-- ---- GET of a key that is a literal
abbrev got : ℕ → Plain → Form
got n d = operation op.Get (form (slot n) (form (literal d) no_forms)) no_named

fails : {A : Type 0} (why : Reason) (a : A) → Err why ≡ Ok a → ⊥
fails why a h = cc

abbrev pub passed : Answer (Unit {0})
passed = Ok tt

key_read : (e : Held) (t : Told) (n : ℕ) (d : Plain) (r : Answer Plain) (f : Form) → key_if is_key d ≡ r → ((r >>= λ _. passed) >>= λ _. Ok (got n d)) ≡ Ok f → IsRead (opening e t f None kinds.Point).spec
key_read e t n d (Err why) f s h = absurd (fails why f h)
key_read e t n d (Ok key) f s h =
    let same : got n d ≡ f = cc in
    subst (λ z. IsRead (opening e t z None kinds.Point).spec) same
    (read_always (opening e t (got n d) None kinds.Point).spec (λ indexes. ap (λ (z : Answer Plain). is_followed (watch_of (or_nothing kinds.Point (z >>= λ x. Ok (by_key x))))) s))

-- a key that is no literal is refused
form_read : (e : Held) (t : Told) (n : ℕ) (g f : Form) → ((datum_at g >>= key_if is_key >>= λ _. passed) >>= λ _. Ok (operation op.Get (form (slot n) (form g no_forms)) no_named)) ≡ Ok f → IsRead (opening e t f None kinds.Point).spec
form_read e t n (literal d) f h = key_read e t n d (key_if is_key d) f refl h
form_read e t n (several fs) f h = absurd (fails _ f h)
form_read e t n (keyed ms) f h = absurd (fails _ f h)
form_read e t n (variable id) f h = absurd (fails _ f h)
form_read e t n implicit f h = absurd (fails _ f h)
form_read e t n (function ids body) f h = absurd (fails _ f h)
form_read e t n (slot m) f h = absurd (fails _ f h)
form_read e t n (operation o fs ms) f h = absurd (fails _ f h)

point_read : (e : Held) (t : Told) (n : ℕ) (r : Answer Form) (f : Form)
    → (((r >>= λ g. Ok (g ∷ [])) >>= λ gs. Ok (slot n ∷ gs)) >>= λ gs. row_test op.Get gs [] >>= λ _. Ok (operation op.Get (forms_of gs) no_named)) ≡ Ok f → IsRead (opening e t f None kinds.Point).spec
point_read e t n (Err why) f h = absurd (fails why f h)
point_read e t n (Ok g) f h = form_read e t n g f h

get_read : (e : Held) (t : Told) (n : ℕ) (key f : Form) → settled row_test e.world (operation op.Get (form (slot n) (form key no_forms)) no_named) ≡ Ok f → IsRead (opening e t f None kinds.Point).spec
get_read e t n key f h = point_read e t n (argument (keeps_argument (way_of op.Get)) e.world key) f h

-- ---- which operators have which shape
pub shape_on : (s r : Shape) (b : Bool) → shape_if s b ≡ Some r → b ≡ true
shape_on s r true h = refl
shape_on s r false h = absurd (cc (h))

pub shape_is : (s r : Shape) (b : Bool) → shape_if s b ≡ Some r → s ≡ r
shape_is s r true h = cc
shape_is s r false h = absurd (cc (h))

over_two : (n : ℕ) → nat_le (suc (suc (suc n))) 2 ≡ true → ⊥
over_two n h = grind arith

-- two arguments and no options
pub record Two (fs : Forms) (ms : NamedForms) : Type 0 where
  pub f : Form
  pub g : Form
  pub are : form f (form g no_forms) ≡ fs
  pub alone : no_named ≡ ms

pub two_of : (fs : Forms) (ms : NamedForms) → (nat_le 2 (count fs) && (nat_le (count fs) 2 && true)) ≡ true → no_named ≡ ms → Two fs ms
two_of no_forms ms h k = absurd (cc (h))
two_of (form f no_forms) ms h k = absurd (cc (h))
two_of (form f (form g no_forms)) ms h k = record { f = f; g = g; are = refl; alone = k }
two_of (form f (form g (form i fs))) ms h k =
    absurd (over_two (count fs) (both (nat_le (suc (suc (suc (count fs)))) 2) true (both (nat_le 2 (suc (suc (suc (count fs))))) (nat_le (suc (suc (suc (count fs)))) 2 && true) h).1).0)

get_alone : (ms : NamedForms) → takes_all op.Get ms ≡ true → no_named ≡ ms
get_alone no_named h = refl
get_alone (named k f ms) h = absurd (cc (h))

abbrev Points : Held → Told → Form → Type 0
Points e t f = (g : Form) → settled row_test e.world f ≡ Ok g → IsRead (opening e t g None kinds.Point).spec

get_on : (e : Held) (t : Told) (f key : Form) → is_table_at (Some f) ≡ true → is_planned f ≡ true → Points e t (operation op.Get (form f (form key no_forms)) no_named)
get_on e t (slot n) key s p = λ g h. get_read e t n key g h
get_on e t (operation o fs ms) key s p = absurd (let e : true ≡ false = sym s ∙ (planned_fits o fs ms p).looked_up in cc)
get_on e t (literal d) key s p = absurd (cc (s))
get_on e t (several fs) key s p = absurd (cc (s))
get_on e t (keyed ms) key s p = absurd (cc (s))
get_on e t (variable id) key s p = absurd (cc (s))
get_on e t implicit key s p = absurd (cc (s))
get_on e t (function ids body) key s p = absurd (cc (s))

points_by : (e : Held) (t : Told) (o : Op) (fs : Forms) (ms : NamedForms) → shape (operation o fs ms) ≡ Some shapes.Point → is_planned (operation o fs ms) ≡ true → Points e t (operation o fs ms)
points_by e t op.Get fs ms s p =
    let q = planned_fits op.Get fs ms p in
    let two = two_of fs ms q.counted (get_alone ms q.taken) in
    let table : is_table_at (Some two.f) ≡ true = subst (λ x. is_table_at (first x) ≡ true) (sym two.are) (shape_on shapes.Point shapes.Point (is_table_at (first fs)) s) in
    let planned = both (is_planned two.f) (are_planned (form two.g no_forms)) (subst (λ x. are_planned x ≡ true) (sym two.are) q.arguments) in
    subst (λ x. Points e t (operation op.Get x ms)) two.are (subst (λ x. Points e t (operation op.Get (form two.f (form two.g no_forms)) x)) two.alone (get_on e t two.f two.g table planned.0))
points_by e t op.Limit fs ms s p = absurd (let e : shapes.Limit ≡ shapes.Point = shape_is shapes.Limit shapes.Point (is_order_at (first fs)) s in cc)
points_by e t op.Union fs ms s p = absurd (let e : shapes.United ≡ shapes.Point = shape_is shapes.United shapes.Point (are_arms fs) s in cc)
points_by e t o fs ms s p = absurd (let e : shapes.Range ≡ shapes.Point = shape_is shapes.Range shapes.Point (is_range (operation o fs ms)) s in cc)

pub points_are_read : PointsAreRead
points_are_read e t (operation o fs ms) g s p h = points_by e t o fs ms s p g h
points_are_read e t (slot n) g s p h = absurd (cc (s))
points_are_read e t (literal d) g s p h = absurd (cc (s))
points_are_read e t (several fs) g s p h = absurd (cc (s))
points_are_read e t (keyed ms) g s p h = absurd (cc (s))
points_are_read e t (variable id) g s p h = absurd (cc (s))
points_are_read e t implicit g s p h = absurd (cc (s))
points_are_read e t (function ids body) g s p h = absurd (cc (s))
