-- What LIMIT asks of a table is followed.
use Rattle.std.proofs.Common.{◌≡◌, ℕ, suc, pos, negsuc, nat_eq, nat_le, not, List, [], ◌∷◌, map, Bool, true, false, cond, ◌&&◌, ◌||◌, if◌then◌else◌, Option, Some, None, is_some, option_and_then, Ok, Err, refl, sym, ap, subst, ◌∙◌, arith}
use Rattle.std.specs.List.{list_all}
use Rattle.std.specs.Option.{unwrap_or}
use Rattle.std.specs.Ordering.{is_eq}
use Rattle.std.specs.Prelude.{codes}
use Rattle.reql_datum.specs.Answer.{Answer, ◌>>=◌, Reason}
use Rattle.reql_datum.specs.Members.{find, text_order}
use Rattle.reql_datum.specs.Plain.{Plain, low, array, boolean, null, number, object, binary, time, text, high}
use Rattle.reql_term.specs.Form.{Form, literal, several, keyed, variable, implicit, function, slot, operation, Forms, no_forms, form, NamedForms, no_named, named, forms_of, named_of}
use Rattle.reql_term.specs.Table.{fits, takes, way_of}
use Rattle.reql_term.specs.Views.{Index}
use Rattle.reql_term.specs.declared.op.Op.{Op}
use Rattle.reql_term.specs.declared.op.Op.TheVariants as op
use Rattle.reql_term.specs.declared.role.Way.TheVariants as way
use Rattle.reql_faults.specs.Places as places
use Rattle.reql_faults.specs.Places.{first, count, option, members}
use Rattle.reql_faults.specs.Shapes as faults
use Rattle.reql_faults.specs.Shapes.{part_of, is_table_part, is_table_at, is_source, source_by, order_over, is_order_at}
use Rattle.reql_faults.specs.declared.shape.Shape.TheVariants as shapes
use Rattle.reql_rules.specs.Faults.{misplaced, misplaced_order}
use Rattle.reql_rules.specs.Lists.{Bytes}
use Rattle.reql_rules.specs.Types.{same_text, wanted, mismatch, text_in}
use Rattle.reql_value_spec.specs.Meaning.{value}
use Rattle.reql_value_spec.specs.Meant.{one, callable, Given, given, Options}
use Rattle.reql_value_spec.specs.Tables.{key_if, may_bound}
use Rattle.reql_value_spec.specs.Wanted.{text_given, text_option, accepted, boundness, index_text, left_is_open, right_is_open}
use Rattle.reql_value_spec.specs.World.{World, bare_world}
use Rattle.reql_write_spec.specs.Selecting.{slots}
use Rattle.reql_feed_spec.specs.Kept.{Kept, by_index, by_primary, watch_of, is_free, fields_free}
use Rattle.reql_feed_spec.specs.Watched.{Part, whole, between}
use Rattle.reql_feed_spec.specs.declared.kind.FeedKind.TheVariants as kinds
use Rattle.reql_feed_spec.proofs.Sources.{same_name, same_names}
use Rattle.reql_table_spec.specs.Followed as law
use Rattle.reql_table_spec.specs.Followed.{Ordered, options, first_slot, closed_value, closed_options, literal_name, literal_count, literal_index, index_by, bounds, part_between, order_index, first_by, first_shape, order_in, kept_order, is_asked, is_same, shape_by, or_nothing}
use Rattle.reql_table_spec.specs.Indexes.{Indexes}
use Rattle.reql_table_spec.specs.Table as tables
use Rattle.reql_table_spec.specs.declared.command.FeedSpec.{FeedSpec}
use Rattle.reql_table_spec.proofs.Closed.{then_ok, if_ok, same_ok}
use Rattle.reql_table_spec.proofs.Reading.{both, itself}
use Rattle.reql_plan_spec.specs.declared.parts.Opening.{Opening}
use Rattle.reql_plan_spec.specs.Feeding.{Told, opening, datum_at, given_in, givens, row_test, between_test, limit_test, count_in, name_in, order_name, index_or, between_name, agrees, single}
use Rattle.reql_plan_spec.specs.Feeding as feeding
use Rattle.reql_plan_spec.specs.Follows.{is_followed, IsRead, takes_all, is_planned, are_planned, fields_planned, LimitsAreRead}
use Rattle.reql_plan_spec.specs.Held.{Held, key_of}
use Rattle.reql_plan_spec.specs.Settled.{settled, first_settled, argument, arguments, named_arguments, datum_of, evaluated, kept_or, nothing_kept, keeps_argument, keeps_option, is_direction}
use Rattle.reql_plan_spec.specs.Texts.{over_limit}
use Rattle.reql_plan_spec.proofs.Follows.{KeepsErrors, Followed, spec_at, both_are, options_free, planned_fits, passed, shape_on, shape_is, two_of}

-- ---- a settled argument that keeps no operator is a literal or a function
abbrev is_value : Form → Bool
is_value (literal d) = true
is_value (function ids body) = true
is_value f = false

literal_value : (w : World) (f g : Form) → evaluated w f ≡ Ok g → is_value g ≡ true
literal_value w f g h =
    let d = then_ok (datum_of w f) (λ d. Ok (literal d)) g h in
    subst (λ x. is_value x ≡ true) (same_ok (literal d.0) g d.2) refl

abbrev KeepsNone : (Op → Bool) → Type 0
KeepsNone keeps = (o : Op) → keeps o ≡ false

argument_value : (keeps : Op → Bool) (w : World) (f g : Form) → KeepsNone keeps → argument keeps w f ≡ Ok g → is_value g ≡ true
argument_value keeps w (function ids body) g k h = subst (λ x. is_value x ≡ true) (same_ok (function ids body) g h) refl
argument_value keeps w (operation o fs ms) g k h = literal_value w (operation o fs ms) g
    (subst (λ b. kept_or b (arguments nothing_kept w fs >>= λ gs. Ok (operation o (forms_of gs) ms)) (evaluated w (operation o fs ms)) ≡ Ok g) (k o) h)
argument_value keeps w (literal d) g k h = literal_value w (literal d) g h
argument_value keeps w (several fs) g k h = literal_value w (several fs) g h
argument_value keeps w (keyed ms) g k h = literal_value w (keyed ms) g h
argument_value keeps w (variable id) g k h = literal_value w (variable id) g h
argument_value keeps w implicit g k h = literal_value w implicit g h
argument_value keeps w (slot n) g k h = literal_value w (slot n) g h

-- ---- options that are settled, as a feed's machine reads them
abbrev closed_given : Form → Given
closed_given (literal d) = given (one d)
closed_given f = given callable

abbrev closed_givens : List (Bytes × Form) → Options
closed_givens ns = map (λ m. (m.0, closed_given m.1)) ns

abbrev Closes : List (Bytes × Form) → Type 0
Closes ns = closed_options (options (named_of ns)) ≡ Ok (closed_givens ns)

closed_step : (k : Bytes) (g : Form) (ns : List (Bytes × Form)) → is_value g ≡ true → is_free [] g ≡ true → Closes ns → Closes ((k, g) ∷ ns)
closed_step k (literal d) ns v free h = ap (λ a. a >>= λ os. Ok ((k, given (one d)) ∷ os)) h
closed_step k (function ids body) ns v free h =
    ap (λ b. (if b then value (function ids body) bare_world [] else Err misplaced) >>= λ d. closed_options (options (named_of ns)) >>= λ os. Ok ((k, given d) ∷ os)) free
    ∙ ap (λ a. a >>= λ os. Ok ((k, given callable) ∷ os)) h
closed_step k (several fs) ns v free h = absurd (cc (v))
closed_step k (keyed ms) ns v free h = absurd (cc (v))
closed_step k (variable id) ns v free h = absurd (cc (v))
closed_step k implicit ns v free h = absurd (cc (v))
closed_step k (slot n) ns v free h = absurd (cc (v))
closed_step k (operation o fs ms) ns v free h = absurd (cc (v))

close : (keeps : Op → Bool) (w : World) (ms : NamedForms) (ns : List (Bytes × Form)) → KeepsNone keeps → named_arguments keeps w ms ≡ Ok ns → fields_free [] (named_of ns) ≡ true → Closes ns
close keeps w no_named ns k h free = subst Closes (same_ok [] ns h) refl
close keeps w (named name f ms) ns k h free =
    let a = then_ok (argument keeps w f) (λ g. named_arguments keeps w ms >>= λ rest. Ok ((name, g) ∷ rest)) ns h in
    let b = then_ok (named_arguments keeps w ms) (λ rest. Ok ((name, a.0) ∷ rest)) ns a.2 in
    let same = same_ok ((name, a.0) ∷ b.0) ns b.2 in
    let q = both (is_free [] a.0) (fields_free [] (named_of b.0)) (subst (λ x. fields_free [] (named_of x) ≡ true) (sym same) free) in
    subst Closes same (closed_step name a.0 b.0 (argument_value keeps w f a.0 k a.1) q.0 (close keeps w ms b.0 k b.1 q.1))

-- the texts of options are the same
same_text_given : (name : Bytes) (g : Form) → text_given name (Some (closed_given g)) ≡ text_given name (Some (given_in g))
same_text_given name (literal d) = refl
same_text_given name (several fs) = refl
same_text_given name (keyed ms) = refl
same_text_given name (variable id) = refl
same_text_given name implicit = refl
same_text_given name (function ids body) = refl
same_text_given name (slot n) = refl
same_text_given name (operation o fs ms) = refl

same_found : (b : Bool) (name : Bytes) (g : Form) (x y : Option Given) → text_given name x ≡ text_given name y → text_given name (cond b (Some (closed_given g)) x) ≡ text_given name (cond b (Some (given_in g)) y)
same_found true name g x y h = same_text_given name g
same_found false name g x y h = h

same_option : (name : Bytes) (ns : List (Bytes × Form)) → text_option name (closed_givens ns) ≡ text_option name (givens ns)
same_option name [] = refl
same_option name ((k, g) ∷ ns) = same_found (is_eq (text_order name k)) name g (find name (closed_givens ns)) (find name (givens ns)) (same_option name ns)

-- the index that they name
same_options : (ns : List (Bytes × Form)) → options (named_of ns) ≡ ns
same_options [] = refl
same_options (m ∷ ns) = ap (λ xs. m ∷ xs) (same_options ns)

same_members : (ns : List (Bytes × Form)) → members (named_of ns) ≡ ns
same_members [] = refl
same_members (m ∷ ns) = ap (λ xs. m ∷ xs) (same_members ns)

text_accepted : (name : Bytes) (why : Reason) (o index : Option Bytes) → accepted name o ≡ Ok index → (wanted why o >>= λ s. Ok (Some s)) ≡ Ok index
text_accepted name why None index h = absurd (cc (h))
text_accepted name why (Some s) index h = h

index_given : (name : Bytes) (g : Form) (index : Option Bytes) → text_given name (Some (given_in g)) ≡ Ok index → literal_index (Some g) ≡ Ok index
index_given name (literal d) index h = text_accepted name (mismatch (codes "STRING") d) (text_in d) index h
index_given name (several fs) index h = absurd (cc (h))
index_given name (keyed ms) index h = absurd (cc (h))
index_given name (variable id) index h = absurd (cc (h))
index_given name implicit index h = absurd (cc (h))
index_given name (function ids body) index h = absurd (cc (h))
index_given name (slot n) index h = absurd (cc (h))
index_given name (operation o fs ms) index h = absurd (cc (h))

index_step : (b : Bool) (name : Bytes) (g : Form) (later : Option Form) (found : Option Given) (index : Option Bytes) → (text_given name found ≡ Ok index → literal_index later ≡ Ok index)
    → text_given name (cond b (Some (given_in g)) found) ≡ Ok index → literal_index (cond b (Some g) later) ≡ Ok index
index_step true name g later found index rest h = index_given name g index h
index_step false name g later found index rest h = rest h

index_found : (name : Bytes) (ns : List (Bytes × Form)) (index : Option Bytes) → text_option name (givens ns) ≡ Ok index → literal_index (find name ns) ≡ Ok index
index_found name [] index h = h
index_found name ((k, g) ∷ ns) index h = index_step (is_eq (text_order name k)) name g (find name ns) (find name (givens ns)) index (λ later. index_found name ns index later) h

text_is : (why : Reason) (o index : Option Bytes) → (wanted why o >>= λ s. Ok (Some s)) ≡ Ok index → o ≡ index
text_is why None index h = absurd (cc (h))
text_is why (Some s) index h = same_ok (Some s) index h

index_name : (f : Option Form) (index : Option Bytes) → literal_index f ≡ Ok index → option_and_then name_in f ≡ index
index_name None index h = same_ok None index h
index_name (Some (literal d)) index h = text_is (mismatch (codes "STRING") d) (text_in d) index h
index_name (Some f) index h = absurd (cc (h))

-- ---- the part of a table that is put in order
all_taken : (keeps : Op → Bool) (w : World) (o : Op) (ms : NamedForms) (ns : List (Bytes × Form)) → takes_all o ms ≡ true → named_arguments keeps w ms ≡ Ok ns → list_all (λ (m : Bytes × Form). takes o m.0) ns ≡ true
all_taken keeps w o no_named ns t h = subst (λ x. list_all (λ (m : Bytes × Form). takes o m.0) x ≡ true) (same_ok [] ns h) refl
all_taken keeps w o (named name f ms) ns t h =
    let q = both (takes o name) (not (is_some (option name ms)) && takes_all o ms) t in
    let r = both (not (is_some (option name ms))) (takes_all o ms) q.1 in
    let a = then_ok (argument keeps w f) (λ g. named_arguments keeps w ms >>= λ rest. Ok ((name, g) ∷ rest)) ns h in
    let b = then_ok (named_arguments keeps w ms) (λ rest. Ok ((name, a.0) ∷ rest)) ns a.2 in
    subst (λ x. list_all (λ (m : Bytes × Form). takes o m.0) x ≡ true) (same_ok ((name, a.0) ∷ b.0) ns b.2)
    (both_are (takes o name) (list_all (λ (m : Bytes × Form). takes o m.0) b.0) q.0 (all_taken keeps w o ms b.0 r.1 b.1))

bound_closed : (f : Form) (d : Plain) → datum_at f ≡ Ok d → closed_value f ≡ Ok d
bound_closed (literal x) d h = h
bound_closed (several fs) d h = absurd (cc (h))
bound_closed (keyed ms) d h = absurd (cc (h))
bound_closed (variable id) d h = absurd (cc (h))
bound_closed implicit d h = absurd (cc (h))
bound_closed (function ids body) d h = absurd (cc (h))
bound_closed (slot n) d h = absurd (cc (h))
bound_closed (operation o fs ms) d h = absurd (cc (h))

bounds_are : (a b : Answer Plain) (c : Answer Options) (left right : Options → Answer Bool) (fit : Bool) (bottom top : Plain) (os : Options) (bottom_open top_open : Bool)
    → a ≡ Ok bottom → b ≡ Ok top → c ≡ Ok os → left os ≡ Ok bottom_open → right os ≡ Ok top_open → fit ≡ true
    → (a >>= λ bottom. b >>= λ top. c >>= λ os. left os >>= λ lo. right os >>= λ ho. if fit then Ok (between bottom lo top ho) else Err misplaced) ≡ Ok (between bottom bottom_open top top_open)
bounds_are a b c left right fit bottom top os bottom_open top_open p q r s t u = rw (p, q, r, s, t, u) refl

part_by : (r : Answer (Option Bytes)) (by : Option Bytes → Bool) (p : Answer Part) (index : Option Bytes) (part : Part) → r ≡ Ok index → by index ≡ true → p ≡ Ok part → (r >>= λ i. if by i then p else Err misplaced) ≡ Ok part
part_by r by p index part h k l = rw (h, k, l) refl

abbrev PartOf : Bytes → Bytes → Form → Type 0
PartOf key name f = (part : Part) × (law.part_of key name f ≡ Ok part)

agreed : (name other : Bytes) → agrees name (Some other) ≡ passed → same_text name other ≡ true
agreed name other h = (if_ok (same_text name other) passed misplaced_order tt h).0

-- BETWEEN's tests, from its bounds on
abbrev right_test : List (Bytes × Form) → Answer (Unit {0})
right_test ns = right_is_open (givens ns) >>= λ _. passed

abbrev left_test : List (Bytes × Form) → Answer (Unit {0})
left_test ns = left_is_open (givens ns) >>= λ _. right_test ns

abbrev index_test : List (Bytes × Form) → Answer (Unit {0})
index_test ns = index_text (givens ns) >>= λ _. left_test ns

abbrev high_test : Plain → List (Bytes × Form) → Answer (Unit {0})
high_test d ns = key_if may_bound d >>= λ _. index_test ns

abbrev low_test : Plain → Plain → List (Bytes × Form) → Answer (Unit {0})
low_test c d ns = key_if may_bound c >>= λ _. high_test d ns

between_part : (key name : Bytes) (n : ℕ) (rest : List Form) (ns : List (Bytes × Form)) → between_test (slot n ∷ rest) ns ≡ passed → Closes ns → list_all (λ (m : Bytes × Form). takes op.Between m.0) ns ≡ true
    → agrees name (between_name key (operation op.Between (forms_of (slot n ∷ rest)) (named_of ns))) ≡ passed → PartOf key name (operation op.Between (forms_of (slot n ∷ rest)) (named_of ns))
between_part key name n [] ns h c t a = absurd (cc (h))
between_part key name n (l ∷ []) ns h c t a = absurd (cc (h))
between_part key name n (l ∷ u ∷ x ∷ xs) ns h c t a = absurd (cc (h))
between_part key name n (l ∷ u ∷ []) ns h c t a =
    let d1 = then_ok (datum_at l) (λ low. datum_at u >>= λ high. low_test low high ns) tt h in
    let d2 = then_ok (datum_at u) (λ high. low_test d1.0 high ns) tt d1.2 in
    let k1 = then_ok (key_if may_bound d1.0) (λ _. high_test d2.0 ns) tt d2.2 in
    let k2 = then_ok (key_if may_bound d2.0) (λ _. index_test ns) tt k1.2 in
    let i = then_ok (index_text (givens ns)) (λ _. left_test ns) tt k2.2 in
    let b1 = then_ok (left_is_open (givens ns)) (λ _. right_test ns) tt i.2 in
    let b2 = then_ok (right_is_open (givens ns)) (λ _. passed) tt b1.2 in
    let found : literal_index (find (codes "index") ns) ≡ Ok i.0 = index_found (codes "index") ns i.0 i.1 in
    let index_is : literal_index (find (codes "index") (options (named_of ns))) ≡ Ok i.0 = subst (λ xs. literal_index (find (codes "index") xs) ≡ Ok i.0) (sym (same_options ns)) found in
    let named_is : option_and_then name_in (option (codes "index") (named_of ns)) ≡ i.0 =
    index_name (option (codes "index") (named_of ns)) i.0 (subst (λ xs. literal_index (find (codes "index") xs) ≡ Ok i.0) (sym (same_members ns)) found) in
    let same : same_text name (unwrap_or i.0 key) ≡ true = agreed name (unwrap_or i.0 key) (subst (λ x. agrees name (Some (unwrap_or x key)) ≡ passed) named_is a) in
    let by_index : same_text (index_by key i.0) name ≡ true =
    subst (λ x. same_text (unwrap_or i.0 key) x ≡ true) (sym (same_names name (unwrap_or i.0 key) same)) (same_name (unwrap_or i.0 key)) in
    let low : (closed_value l >>= key_if may_bound) ≡ Ok k1.0 = ap (λ z. z >>= key_if may_bound) (bound_closed l d1.0 d1.1) ∙ k1.1 in
    let high : (closed_value u >>= key_if may_bound) ≡ Ok k2.0 = ap (λ z. z >>= key_if may_bound) (bound_closed u d2.0 d2.1) ∙ k2.1 in
    let open_low : left_is_open (closed_givens ns) ≡ Ok b1.0 = ap (λ z. z >>= λ s. boundness (codes "left_bound") false s) (same_option (codes "left_bound") ns) ∙ b1.1 in
    let open_high : right_is_open (closed_givens ns) ≡ Ok b2.0 = ap (λ z. z >>= λ s. boundness (codes "right_bound") true s) (same_option (codes "right_bound") ns) ∙ b2.1 in
    let fit : list_all (λ (m : Bytes × Form). takes op.Between m.0) (options (named_of ns)) ≡ true = subst (λ xs. list_all (λ (m : Bytes × Form). takes op.Between m.0) xs ≡ true) (sym (same_options ns)) t in (
      between k1.0 b1.0 k2.0 b2.0,
      part_by (literal_index (find (codes "index") (options (named_of ns)))) (λ index. same_text (index_by key index) name) (bounds l u (options (named_of ns))) i.0 (between k1.0 b1.0 k2.0 b2.0) index_is by_index
          (bounds_are (closed_value l >>= key_if may_bound) (closed_value u >>= key_if may_bound) (closed_options (options (named_of ns))) left_is_open right_is_open
          (list_all (λ (m : Bytes × Form). takes op.Between m.0) (options (named_of ns))) k1.0 k2.0 (closed_givens ns) b1.0 b2.0 low high c open_low open_high fit),
    )

abbrev limit_term : Form → Form → Form → Form
limit_term source index most = operation op.Limit (form (operation op.OrderBy (form source no_forms) (named (codes "index") index no_named)) (form most no_forms)) no_named

-- a source that is settled: its slot stands first in all that is made of it, and it is a part of its table
record Sourced (s : Form) : Type 0 where
  n : ℕ
  alone : first_slot (slots s) ≡ n
  within : (index most : Form) → first_slot (slots (limit_term s index most)) ≡ n
  part : (key name : Bytes) → agrees name (between_name key s) ≡ passed → PartOf key name s

slot_sourced : (n : ℕ) → Sourced (slot n)
slot_sourced n = record { n = n; alone = refl; within = λ index most. refl; part = λ key name a. (whole, refl) }

-- BETWEEN stands on a slot
abbrev SlotFirst : List Form → Type 0
SlotFirst gs = (n : ℕ) × ((rest : List Form) × (slot n ∷ rest ≡ gs))

slot_first : (w : World) (f : Form) (fs : Forms) (gs : List Form) → is_table_at (Some f) ≡ true → is_planned f ≡ true
    → (settled row_test w f >>= λ g. arguments (keeps_argument way.Strict) w fs >>= λ rest. Ok (g ∷ rest)) ≡ Ok gs → SlotFirst gs
slot_first w (slot n) fs gs t p h =
    let a = then_ok (arguments (keeps_argument way.Strict) w fs) (λ rest. Ok (slot n ∷ rest)) gs h in
    (n, (a.0, same_ok (slot n ∷ a.0) gs a.2))
slot_first w (operation o fs' ms) fs gs t p h = absurd (let e : true ≡ false = sym t ∙ (planned_fits o fs' ms p).looked_up in cc)
slot_first w (literal d) fs gs t p h = absurd (cc (t))
slot_first w (several gs') fs gs t p h = absurd (cc (t))
slot_first w (keyed ms) fs gs t p h = absurd (cc (t))
slot_first w (variable id) fs gs t p h = absurd (cc (t))
slot_first w implicit fs gs t p h = absurd (cc (t))
slot_first w (function ids body) fs gs t p h = absurd (cc (t))

slots_first : (w : World) (fs : Forms) (gs : List Form) → is_table_at (first fs) ≡ true → are_planned fs ≡ true → first_settled row_test w way.Strict fs ≡ Ok gs → SlotFirst gs
slots_first w no_forms gs t p h = absurd (cc (t))
slots_first w (form f fs) gs t p h = slot_first w f fs gs t (both (is_planned f) (are_planned fs) p).0 h

none_kept : KeepsNone (keeps_option way.Strict)
none_kept o = refl

no_errors : KeepsErrors (keeps_option way.Strict)
no_errors o h = absurd (cc (h))

between_sourced : (w : World) (ms : NamedForms) (gs : List Form) (ns : List (Bytes × Form)) → takes_all op.Between ms ≡ true → fields_planned ms ≡ true → SlotFirst gs → named_arguments (keeps_option way.Strict) w ms ≡ Ok ns
    → between_test gs ns ≡ passed → Sourced (operation op.Between (forms_of gs) (named_of ns))
between_sourced w ms gs ns t p s h test =
    subst (λ x. Sourced (operation op.Between (forms_of x) (named_of ns))) s.1.1 (record {
      n = s.0;
      alone = refl;
      within = λ index most. refl;
      part = λ key name a. between_part key name s.0 s.1.0 ns (subst (λ x. between_test x ns ≡ passed) (sym s.1.1) test)
          (close (keeps_option way.Strict) w ms ns none_kept h (options_free (keeps_option way.Strict) w ms ns no_errors p h)) (all_taken (keeps_option way.Strict) w op.Between ms ns t h) a;
    })

source_of : (w : World) (o : Op) (fs : Forms) (ms : NamedForms) (name : Option Bytes) (s : Form) → source_by (part_of o) name (first fs) (option (codes "index") ms) ≡ true → is_planned (operation o fs ms) ≡ true
    → settled row_test w (operation o fs ms) ≡ Ok s → Sourced s
source_of w op.Between fs ms name s is p h =
    let q = planned_fits op.Between fs ms p in
    let table = both (is_table_at (first fs)) (not (faults.differ name (places.text_at (option (codes "index") ms)))) is in
    let a = then_ok (first_settled row_test w way.Strict fs) (λ gs. named_arguments (keeps_option way.Strict) w ms >>= λ ns. between_test gs ns >>= λ _. Ok (operation op.Between (forms_of gs) (named_of ns))) s h in
    let b = then_ok (named_arguments (keeps_option way.Strict) w ms) (λ ns. between_test a.0 ns >>= λ _. Ok (operation op.Between (forms_of a.0) (named_of ns))) s a.2 in
    let d = then_ok (between_test a.0 b.0) (λ _. Ok (operation op.Between (forms_of a.0) (named_of b.0))) s b.2 in
    subst Sourced (same_ok (operation op.Between (forms_of a.0) (named_of b.0)) s d.2)
    (between_sourced w ms a.0 b.0 q.taken q.options (slots_first w fs a.0 table.0 q.arguments a.1) b.1 d.1)
source_of w op.Table fs ms name s is p h = absurd (let e = (planned_fits op.Table fs ms p).looked_up in cc)
source_of w o fs ms name s is p h = absurd (cc (is))

sourced : (w : World) (f : Form) (name : Option Bytes) (s : Form) → is_source name f ≡ true → is_planned f ≡ true → settled row_test w f ≡ Ok s → Sourced s
sourced w (slot n) name s is p h = subst Sourced (same_ok (slot n) s h) (slot_sourced n)
sourced w (operation o fs ms) name s is p h = source_of w o fs ms name s is p h
sourced w (literal d) name s is p h = absurd (cc (is))
sourced w (several fs) name s is p h = absurd (cc (is))
sourced w (keyed ms) name s is p h = absurd (cc (is))
sourced w (variable id) name s is p h = absurd (cc (is))
sourced w implicit name s is p h = absurd (cc (is))
sourced w (function ids body) name s is p h = absurd (cc (is))

-- ---- the index of the order
abbrev Directed : Form → Bytes → Type 0
Directed i name = (down : Bool) × (order_index i ≡ Ok (name, down))

literal_directed : (d : Plain) (name : Bytes) → text_in d ≡ Some name → Directed (literal d) name
literal_directed d name h = (false, ap (λ o. wanted (mismatch (codes "STRING") d) o >>= λ n. Ok (n, false)) h)

named_literal : (g : Form) (name : Bytes) → name_in g ≡ Some name → literal_name g ≡ Ok name
named_literal (literal d) name h = ap (λ o. wanted (mismatch (codes "STRING") d) o) h
named_literal (several fs) name h = absurd (cc (h))
named_literal (keyed ms) name h = absurd (cc (h))
named_literal (variable id) name h = absurd (cc (h))
named_literal implicit name h = absurd (cc (h))
named_literal (function ids body) name h = absurd (cc (h))
named_literal (slot n) name h = absurd (cc (h))
named_literal (operation o fs ms) name h = absurd (cc (h))

too_many : (n : ℕ) → nat_le (suc (suc n)) 1 ≡ true → ⊥
too_many n h = grind arith

-- ASC or DESC of one name, and no options
one_argument : (w : World) (fs : Forms) (gs : List Form) → fits op.Asc (count fs) ≡ true → arguments nothing_kept w fs ≡ Ok gs → (g : Form) × (gs ≡ g ∷ [])
one_argument w no_forms gs n h = absurd (cc (n))
one_argument w (form f no_forms) gs n h =
    let a = then_ok (argument nothing_kept w f) (λ g. Ok (g ∷ [])) gs h in
    (a.0, sym (same_ok (a.0 ∷ []) gs a.2))
one_argument w (form f (form g fs)) gs n h = absurd (too_many (count fs) (both (nat_le (suc (suc (count fs))) 1) true (both (nat_le 1 (suc (suc (count fs)))) (nat_le (suc (suc (count fs))) 1 && true) n).1).0)

directed_by : (o : Op) (w : World) (fs : Forms) (ms : NamedForms) (gs : List Form) (name : Bytes) → is_direction (way_of o) ≡ true → fits o (count fs) ≡ true → takes_all o ms ≡ true
    → arguments nothing_kept w fs ≡ Ok gs → order_name (operation o (forms_of gs) ms) ≡ Some name → Directed (operation o (forms_of gs) ms) name
directed_by op.Asc w fs (named k f ms) gs name d n t h is = absurd (cc (t))
directed_by op.Desc w fs (named k f ms) gs name d n t h is = absurd (cc (t))
directed_by op.Asc w fs no_named gs name d n t h is =
    let g = one_argument w fs gs n h in
    let named_is : name_in g.0 ≡ Some name = subst (λ x. order_name (operation op.Asc (forms_of x) no_named) ≡ Some name) g.1 is in
    subst (λ x. Directed (operation op.Asc (forms_of x) no_named) name) (sym g.1) (false, ap (λ (a : Answer Bytes). a >>= λ n. Ok (n, false)) (named_literal g.0 name named_is))
directed_by op.Desc w fs no_named gs name d n t h is =
    let g = one_argument w fs gs n h in
    let named_is : name_in g.0 ≡ Some name = subst (λ x. order_name (operation op.Desc (forms_of x) no_named) ≡ Some name) g.1 is in
    subst (λ x. Directed (operation op.Desc (forms_of x) no_named) name) (sym g.1) (true, ap (λ (a : Answer Bytes). a >>= λ n. Ok (n, true)) (named_literal g.0 name named_is))
directed_by o w fs ms gs name d n t h is = absurd (cc (d))

evaluated_directed : (w : World) (f i : Form) (name : Bytes) → evaluated w f ≡ Ok i → order_name i ≡ Some name → Directed i name
evaluated_directed w f i name h is =
    let d = then_ok (datum_of w f) (λ d. Ok (literal d)) i h in
    let e = same_ok (literal d.0) i d.2 in
    subst (λ x. Directed x name) e (literal_directed d.0 name (subst (λ x. order_name x ≡ Some name) (sym e) is))

kept_directed : (b : Bool) (w : World) (o : Op) (fs : Forms) (ms : NamedForms) (i : Form) (name : Bytes) → is_direction (way_of o) ≡ b → fits o (count fs) ≡ true → takes_all o ms ≡ true
    → kept_or b (arguments nothing_kept w fs >>= λ gs. Ok (operation o (forms_of gs) ms)) (evaluated w (operation o fs ms)) ≡ Ok i → order_name i ≡ Some name → Directed i name
kept_directed true w o fs ms i name d n t h is =
    let a = then_ok (arguments nothing_kept w fs) (λ gs. Ok (operation o (forms_of gs) ms)) i h in
    let e = same_ok (operation o (forms_of a.0) ms) i a.2 in
    subst (λ x. Directed x name) e (directed_by o w fs ms a.0 name d n t a.1 (subst (λ x. order_name x ≡ Some name) (sym e) is))
kept_directed false w o fs ms i name d n t h is = evaluated_directed w (operation o fs ms) i name h is

directed : (w : World) (f i : Form) (name : Bytes) → is_planned f ≡ true → argument (keeps_option way.Sorting) w f ≡ Ok i → order_name i ≡ Some name → Directed i name
directed w (operation o fs ms) i name p h is =
    let q = planned_fits o fs ms p in
    kept_directed (is_direction (way_of o)) w o fs ms i name refl q.counted q.taken h is
directed w (function ids body) i name p h is = absurd (let e : None ≡ Some name = subst (λ x. order_name x ≡ Some name) (sym (same_ok (function ids body) i h)) is in cc)
directed w (literal d) i name p h is = evaluated_directed w (literal d) i name h is
directed w (several fs) i name p h is = evaluated_directed w (several fs) i name h is
directed w (keyed ms) i name p h is = evaluated_directed w (keyed ms) i name h is
directed w (variable id) i name p h is = evaluated_directed w (variable id) i name h is
directed w implicit i name p h is = evaluated_directed w implicit i name h is
directed w (slot n) i name p h is = evaluated_directed w (slot n) i name h is

-- ---- the number
number_counted : (d : Plain) (most : ℕ) → count_in (literal d) ≡ Ok most → literal_count (literal d) ≡ Ok most
number_counted (number (pos n)) most h = (if_ok (nat_le n 100000) (Ok n) over_limit most h).1
number_counted (number (negsuc n)) most h = absurd (cc (h))
number_counted low most h = absurd (cc (h))
number_counted (array vs) most h = absurd (cc (h))
number_counted (boolean b) most h = absurd (cc (h))
number_counted null most h = absurd (cc (h))
number_counted (object ms) most h = absurd (cc (h))
number_counted (binary bs) most h = absurd (cc (h))
number_counted (time t) most h = absurd (cc (h))
number_counted (text s) most h = absurd (cc (h))
number_counted high most h = absurd (cc (h))

counted : (c : Form) (most : ℕ) → count_in c ≡ Ok most → literal_count c ≡ Ok most
counted (literal d) most h = number_counted d most h
counted c most h = absurd (cc (h))

-- ---- the order that a feed keeps
abbrev ordered : Bytes → Part → Bool → Ordered
ordered name part down = record { part = part; name = name; down = down }

first_is : (key : Bytes) (s i c : Form) (name : Bytes) (down : Bool) (part : Part) (most : ℕ) → order_index i ≡ Ok (name, down) → law.part_of key name s ≡ Ok part → literal_count c ≡ Ok most
    → first_by key (limit_term s i c) ≡ Ok (ordered name part down, most)
first_is key s i c name down part most h k l = rw (h, k, l) refl

shape_followed : (kind : _) (spec : FeedSpec) (indexes : Indexes) (k : Kept) → spec.kind ≡ kind → shape_by kind spec indexes ≡ Ok k → is_followed (watch_of k) ≡ true → Followed spec indexes
shape_followed kind spec indexes k same h f = subst (λ x. is_followed (watch_of (or_nothing spec.kind x)) ≡ true) (sym (subst (λ z. shape_by z spec indexes ≡ Ok k) (sym same) h)) f

module _ (spec : FeedSpec) (o : Ordered) (most : ℕ) (kind : spec.kind ≡ kinds.Limit most) (index : spec.index ≡ Some o.name) (reads : first_by spec.key spec.shape ≡ Ok (o, most)) where
  asked : is_asked spec o most most ≡ true
  asked = both_are (nat_eq most most) (is_same (Some o.name) spec.index) (itself most) (subst (λ i. is_same (Some o.name) i ≡ true) (sym index) (same_name o.name))

  kept_is : (indexes : Indexes) (k : Kept) → order_in spec indexes o most ≡ Ok k → first_shape spec indexes most ≡ Ok k
  kept_is indexes k h = ap (λ a. a >>= λ f. if is_asked spec f.0 f.1 most then order_in spec indexes f.0 most else Err misplaced) reads
      ∙ ap (λ b. if b then order_in spec indexes o most else Err misplaced) asked ∙ h

  follows : (indexes : Indexes) (k : Kept) → order_in spec indexes o most ≡ Ok k → is_followed (watch_of k) ≡ true → Followed spec indexes
  follows indexes k h f = shape_followed (kinds.Limit most) spec indexes k kind (kept_is indexes k h) f

  by_key_followed : (indexes : Indexes) → same_text o.name spec.key ≡ true → Followed spec indexes
  by_key_followed indexes on = follows indexes (by_primary o.part o.down most) (ap (λ b. if b then Ok (by_primary o.part o.down most) else kept_order o most (find o.name indexes)) on) refl

  by_index_followed : (i : Index) → same_text o.name spec.key ≡ false → i.1 ≡ false → Followed spec ((o.name, i) ∷ [])
  by_index_followed i off multi =
      let here : find o.name ((o.name, i) ∷ []) ≡ Some i = rw (same_name o.name) refl in
      follows ((o.name, i) ∷ []) (by_index i o.part o.down most)
      (ap (λ b. if b then Ok (by_primary o.part o.down most) else kept_order o most (find o.name ((o.name, i) ∷ []))) off ∙ ap (λ x. kept_order o most x) here) (rw multi refl)

  abbrev opens : Indexes → Option tables.Held
  opens kept = Some (record { spec = spec; indexes = kept })

  kept_indexes : (kept : Indexes) (h : tables.Held) → opens kept ≡ Some h → kept ≡ h.indexes
  kept_indexes kept h e = cc

  single_followed : (b : Bool) (i : Index) (h : tables.Held) → i.1 ≡ b → same_text o.name spec.key ≡ false → (if b then None else opens ((o.name, i) ∷ [])) ≡ Some h → Followed spec h.indexes
  single_followed true i h multi off e = absurd (cc (e))
  single_followed false i h multi off e = subst (Followed spec) (kept_indexes ((o.name, i) ∷ []) h e) (by_index_followed i off multi)

  found_followed : (x : Option Index) (h : tables.Held) → same_text o.name spec.key ≡ false → tables.held_by spec o.name x ≡ Some h → Followed spec h.indexes
  found_followed None h off e = absurd (cc (e))
  found_followed (Some i) h off e = single_followed i.1 i h refl off (subst (λ k. (if tables.is_limit k && i.1 then None else opens ((o.name, i) ∷ [])) ≡ Some h) kind e)

  named_followed : (b : Bool) (indexes : Indexes) (h : tables.Held) → same_text o.name spec.key ≡ b → (if b then opens [] else tables.held_by spec o.name (find o.name indexes)) ≡ Some h → Followed spec h.indexes
  named_followed true indexes h on e = by_key_followed h.indexes on
  named_followed false indexes h off e = found_followed (find o.name indexes) h off e

  limit_read : IsRead spec
  limit_read indexes h e = subst (λ s. Followed s h.indexes) (sym (spec_at spec indexes spec.index h e))
      (named_followed (same_text o.name spec.key) indexes h refl (subst (λ i. tables.held_at spec indexes i ≡ Some h) index e))

-- ---- the opening of a limit feed
index_is : (o : Option Bytes) (name : Bytes) → index_or o ≡ Ok name → o ≡ Some name
index_is None name h = absurd (cc (h))
index_is (Some s) name h = ap (λ x. Some x) (same_ok s name h)

module _ (e : Held) (t : Told) where
  abbrev key : Form → Bytes
  key s = key_of e.names (first_slot (slots s))

  abbrev singled : Form → Bytes → Answer Bytes
  singled s name = single e.world (first_slot (slots s)) name >>= λ _. Ok name

  abbrev indexed : Form → Bytes → Answer Bytes
  indexed s name = agrees name (between_name (key s) s) >>= λ _. singled s name

  abbrev opened : Form → Form → Bytes → Answer Opening
  opened f c name = count_in c >>= λ most. Ok (opening e t f (Some name) (kinds.Limit most))

  settled_read : (index s i c : Form) (o : Opening) → Sourced s → is_planned index ≡ true → argument (keeps_option way.Sorting) e.world index ≡ Ok i
      → ((index_or (order_name i) >>= indexed s) >>= opened (limit_term s i c) c) ≡ Ok o → IsRead o.spec
  settled_read index s i c o source p is h =
      let f : Form = limit_term s i c in
      let n = then_ok (index_or (order_name i) >>= indexed s) (opened f c) o h in
      let m = then_ok (index_or (order_name i)) (indexed s) n.0 n.1 in
      let a = then_ok (agrees m.0 (between_name (key s) s)) (λ _. singled s m.0) n.0 m.2 in
      let b = then_ok (single e.world (first_slot (slots s)) m.0) (λ _. Ok m.0) n.0 a.2 in
      let c' = then_ok (count_in c) (λ most. Ok (opening e t f (Some n.0) (kinds.Limit most))) o n.2 in
      let same_key : key s ≡ key f = ap (λ k. key_of e.names k) (source.alone ∙ sym (source.within i c)) in
      let named_is : order_name i ≡ Some n.0 = index_is (order_name i) m.0 m.1 ∙ ap (λ x. Some x) (same_ok m.0 n.0 b.2) in
      let agreed_on : agrees n.0 (between_name (key f) s) ≡ passed = subst (λ k. agrees n.0 (between_name k s) ≡ passed) same_key (subst (λ x. agrees x (between_name (key s) s) ≡ passed) (same_ok m.0 n.0 b.2) a.1) in
      let part = source.part (key f) n.0 agreed_on in
      let down = directed e.world index i n.0 p is named_is in
      let reads = first_is (key f) s i c n.0 down.0 part.0 c'.0 down.1 part.1 (counted c c'.0 c'.1) in
      subst (λ (x : Opening). IsRead x.spec) (same_ok (opening e t f (Some n.0) (kinds.Limit c'.0)) o c'.2)
      (limit_read (opening e t f (Some n.0) (kinds.Limit c'.0)).spec (ordered n.0 part.0 down.0) c'.0 refl refl reads)

-- ---- the whole term, taken apart as it is settled
abbrev order_term : Form → Form → Form
order_term s i = operation op.OrderBy (form s no_forms) (named (codes "index") i no_named)

abbrev order_tail : World → Form → List Form → Answer Form
order_tail w index gs = named_arguments (keeps_option way.Sorting) w (named (codes "index") index no_named) >>= λ ns. passed >>= λ _. Ok (operation op.OrderBy (forms_of gs) (named_of ns))

-- an order is settled by its source and its index
record OrderSettled (w : World) (source index g : Form) : Type 0 where
  s : Form
  i : Form
  source_is : settled row_test w source ≡ Ok s
  index_is : argument (keeps_option way.Sorting) w index ≡ Ok i
  is : order_term s i ≡ g

order_settled : (w : World) (source index g : Form) → settled row_test w (order_term source index) ≡ Ok g → OrderSettled w source index g
order_settled w source index g h =
    let a = then_ok (settled row_test w source >>= λ s. Ok (s ∷ [])) (order_tail w index) g h in
    let s = then_ok (settled row_test w source) (λ s. Ok (s ∷ [])) a.0 a.1 in
    let b = then_ok (named_arguments (keeps_option way.Sorting) w (named (codes "index") index no_named)) (λ ns. passed >>= λ _. Ok (operation op.OrderBy (forms_of a.0) (named_of ns))) g a.2 in
    let i = then_ok (argument (keeps_option way.Sorting) w index) (λ i. Ok ((codes "index", i) ∷ [])) b.0 b.1 in
    let is : order_term s.0 i.0 ≡ g = subst (λ xs. operation op.OrderBy (forms_of xs) (named (codes "index") i.0 no_named) ≡ g) (sym (same_ok (s.0 ∷ []) a.0 s.2))
    (subst (λ ns. operation op.OrderBy (forms_of a.0) (named_of ns) ≡ g) (sym (same_ok ((codes "index", i.0) ∷ []) b.0 i.2)) (same_ok (operation op.OrderBy (forms_of a.0) (named_of b.0)) g b.2)) in
    record { s = s.0; i = i.0; source_is = s.1; index_is = i.1; is = is }

abbrev limit_of : Form → Form → Form
limit_of order c = operation op.Limit (form order (form c no_forms)) no_named

abbrev limit_tail : List Form → Answer Form
limit_tail gs = limit_test gs >>= λ _. Ok (operation op.Limit (forms_of gs) no_named)

-- a limit by its order and its number
record LimitSettled (w : World) (order most f : Form) : Type 0 where
  g : Form
  c : Form
  order_is : settled row_test w order ≡ Ok g
  is : limit_of g c ≡ f

limit_settled : (w : World) (order most f : Form) → settled row_test w (limit_of order most) ≡ Ok f → LimitSettled w order most f
limit_settled w order most f h =
    let a = then_ok (settled row_test w order >>= λ g. (argument (keeps_argument way.Strict) w most >>= λ c. Ok (c ∷ [])) >>= λ cs. Ok (g ∷ cs)) limit_tail f h in
    let g = then_ok (settled row_test w order) (λ g. (argument (keeps_argument way.Strict) w most >>= λ c. Ok (c ∷ [])) >>= λ cs. Ok (g ∷ cs)) a.0 a.1 in
    let cs = then_ok (argument (keeps_argument way.Strict) w most >>= λ c. Ok (c ∷ [])) (λ cs. Ok (g.0 ∷ cs)) a.0 g.2 in
    let c = then_ok (argument (keeps_argument way.Strict) w most) (λ c. Ok (c ∷ [])) cs.0 cs.1 in
    let test = then_ok (limit_test a.0) (λ _. Ok (operation op.Limit (forms_of a.0) no_named)) f a.2 in
    let all : g.0 ∷ c.0 ∷ [] ≡ a.0 = subst (λ xs. g.0 ∷ xs ≡ a.0) (sym (same_ok (c.0 ∷ []) cs.0 c.2)) (same_ok (g.0 ∷ cs.0) a.0 cs.2) in
    record { g = g.0; c = c.0; order_is = g.1; is = subst (λ xs. operation op.Limit (forms_of xs) no_named ≡ f) (sym all) (same_ok (operation op.Limit (forms_of a.0) no_named) f test.2) }

abbrev Limits : Held → Told → Form → Type 0
Limits e t f = (g : Form) (o : Opening) → settled row_test e.world f ≡ Ok g → feeding.limit_opening e t g ≡ Ok o → IsRead o.spec

term_read : (e : Held) (t : Told) (source index most : Form) → is_source (faults.order_name index) source ≡ true → is_planned source ≡ true → is_planned index ≡ true → Limits e t (limit_term source index most)
term_read e t source index most is p q g o h opens =
    let l = limit_settled e.world (order_term source index) most g h in
    let s = order_settled e.world source index l.g l.order_is in
    let same : limit_term s.s s.i l.c ≡ g = subst (λ x. limit_of x l.c ≡ g) (sym s.is) l.is in
    settled_read e t index s.s s.i l.c o (sourced e.world source (faults.order_name index) s.s is p s.source_is) q s.index_is
    (subst (λ x. feeding.limit_opening e t x ≡ Ok o) (sym same) opens)

-- ---- ORDER_BY of a planned term has a source and an index, and no more
record One (index : Option Form) (fs : Forms) : Type 0 where
  source : Form
  name : Form
  fs_are : form source no_forms ≡ fs
  index_is : Some name ≡ index
  is : is_source (faults.order_name name) source ≡ true

one_of : (index : Option Form) (fs : Forms) → order_over index fs ≡ true → One index fs
one_of None fs h = absurd (cc (h))
one_of (Some i) no_forms h = absurd (cc (h))
one_of (Some i) (form f no_forms) h = record { source = f; name = i; fs_are = refl; index_is = refl; is = h }
one_of (Some i) (form f (form g fs)) h = absurd (cc (h))

abbrev Alone : Form → NamedForms → Type 0
Alone i ms = named (codes "index") i no_named ≡ ms

index_taken : (b : Bool) → b || false ≡ true → b ≡ true
index_taken true h = refl
index_taken false h = absurd (cc (h))

is_index : (k : Bytes) → takes op.OrderBy k ≡ true → codes "index" ≡ k
is_index k h = same_names (codes "index") k (index_taken (same_text (codes "index") k) h)

twice : (b : Bool) (j : Form) (rest : Option Form) → b ≡ true → not (is_some (cond b (Some j) rest)) ≡ true → ⊥
twice true j rest h n = absurd (cc (n))
twice false j rest h n = absurd (cc (h))

some_form : (f g : Form) → Some f ≡ Some g → f ≡ g
some_form f g h = cc

index_alone : (ms : NamedForms) (i : Form) → takes_all op.OrderBy ms ≡ true → Some i ≡ option (codes "index") ms → Alone i ms
index_alone no_named i t h = absurd (cc (h))
index_alone (named k f no_named) i t h =
    let q = both (takes op.OrderBy k) true t in
    let e = is_index k q.0 in
    let here : Some i ≡ Some f = subst (λ x. Some i ≡ option (codes "index") (named x f no_named)) (sym e) h in
    subst (λ x. named (codes "index") i no_named ≡ named x f no_named) e (ap (λ x. named (codes "index") x no_named) (some_form i f here))
index_alone (named k f (named l g ms)) i t h =
    let q = both (takes op.OrderBy k) (not (is_some (option k (named l g ms))) && takes_all op.OrderBy (named l g ms)) t in
    let r = both (not (is_some (option k (named l g ms)))) (takes_all op.OrderBy (named l g ms)) q.1 in
    let s = both (takes op.OrderBy l) (not (is_some (option l ms)) && takes_all op.OrderBy ms) r.1 in
    let same : same_text k l ≡ true = subst (λ x. same_text x l ≡ true) (is_index k q.0) (subst (λ x. same_text (codes "index") x ≡ true) (is_index l s.0) refl) in
    absurd (twice (same_text k l) g (option k ms) same r.0)

record Ordering (f : Form) : Type 0 where
  source : Form
  index : Form
  is : order_term source index ≡ f
  from : is_source (faults.order_name index) source ≡ true

order_by : (o : Op) (fs : Forms) (ms : NamedForms) → faults.is_order (operation o fs ms) ≡ true → takes_all o ms ≡ true → Ordering (operation o fs ms)
order_by op.OrderBy fs ms h t =
    let one = one_of (option (codes "index") ms) fs h in
    let alone = index_alone ms one.name t one.index_is in
    record { source = one.source; index = one.name; from = one.is; is = subst (λ x. order_term one.source one.name ≡ operation op.OrderBy x ms) one.fs_are (ap (λ x. operation op.OrderBy (form one.source no_forms) x) alone) }
order_by o fs ms h t = absurd (cc (h))

order_is : (f : Form) → faults.is_order f ≡ true → is_planned f ≡ true → Ordering f
order_is (operation o fs ms) h p = order_by o fs ms h (planned_fits o fs ms p).taken
order_is (literal d) h p = absurd (cc (h))
order_is (several fs) h p = absurd (cc (h))
order_is (keyed ms) h p = absurd (cc (h))
order_is (variable id) h p = absurd (cc (h))
order_is implicit h p = absurd (cc (h))
order_is (function ids body) h p = absurd (cc (h))
order_is (slot n) h p = absurd (cc (h))

-- ---- and LIMIT an order and a number
order_read : (e : Held) (t : Told) (f most : Form) → Ordering f → is_planned f ≡ true → Limits e t (limit_of f most)
order_read e t f most g p =
    let q : is_planned (order_term g.source g.index) ≡ true = subst (λ x. is_planned x ≡ true) (sym g.is) p in
    let r = planned_fits op.OrderBy (form g.source no_forms) (named (codes "index") g.index no_named) q in
    subst (λ x. Limits e t (limit_of x most)) g.is (term_read e t g.source g.index most g.from (both (is_planned g.source) true r.arguments).0 (both (is_planned g.index) true r.options).0)

limit_alone : (ms : NamedForms) → takes_all op.Limit ms ≡ true → no_named ≡ ms
limit_alone no_named h = refl
limit_alone (named k f ms) h = absurd (cc (h))

limits_by : (e : Held) (t : Told) (o : Op) (fs : Forms) (ms : NamedForms) → faults.shape (operation o fs ms) ≡ Some shapes.Limit → is_planned (operation o fs ms) ≡ true → Limits e t (operation o fs ms)
limits_by e t op.Limit fs ms s p =
    let q = planned_fits op.Limit fs ms p in
    let two = two_of fs ms q.counted (limit_alone ms q.taken) in
    let order : faults.is_order two.f ≡ true = subst (λ x. is_order_at (first x) ≡ true) (sym two.are) (shape_on shapes.Limit shapes.Limit (is_order_at (first fs)) s) in
    let planned = both (is_planned two.f) (are_planned (form two.g no_forms)) (subst (λ x. are_planned x ≡ true) (sym two.are) q.arguments) in
    subst (λ x. Limits e t (operation op.Limit x ms)) two.are (subst (λ x. Limits e t (operation op.Limit (form two.f (form two.g no_forms)) x)) two.alone (order_read e t two.f two.g (order_is two.f order planned.0) planned.0))
limits_by e t op.Get fs ms s p = absurd (let e : shapes.Point ≡ shapes.Limit = shape_is shapes.Point shapes.Limit (is_table_at (first fs)) s in cc)
limits_by e t op.Union fs ms s p = absurd (let e : shapes.United ≡ shapes.Limit = shape_is shapes.United shapes.Limit (faults.are_arms fs) s in cc)
limits_by e t o fs ms s p = absurd (let e : shapes.Range ≡ shapes.Limit = shape_is shapes.Range shapes.Limit (faults.is_range (operation o fs ms)) s in cc)

pub limits_are_read : LimitsAreRead
limits_are_read e t (operation p fs ms) g o s q h opens = limits_by e t p fs ms s q g o h opens
limits_are_read e t (slot n) g o s q h opens = absurd (cc (s))
limits_are_read e t (literal d) g o s q h opens = absurd (cc (s))
limits_are_read e t (several fs) g o s q h opens = absurd (cc (s))
limits_are_read e t (keyed ms) g o s q h opens = absurd (cc (s))
limits_are_read e t (variable id) g o s q h opens = absurd (cc (s))
limits_are_read e t implicit g o s q h opens = absurd (cc (s))
limits_are_read e t (function ids body) g o s q h opens = absurd (cc (s))
