-- That each feed of a request is its own term's.
use Rattle.std.proofs.Common.{◌≡◌, ℕ, List, [], ◌∷◌, ◌++◌, Bool, true, false, not, Option, Some, None, Ok, refl, sym, ap, subst, ◌∙◌, ◌⊎◌, inl, inr}
use Rattle.std.specs.List.{AllByRecursion}
use Rattle.std.specs.Prelude.{codes}
use Rattle.reql_datum.specs.Answer.{Answer, ◌>>=◌}
use Rattle.reql_term.specs.Form.{Form, literal, several, keyed, variable, implicit, function, slot, operation, Forms, no_forms, form, NamedForms, forms_of, named_of}
use Rattle.reql_term.specs.Table.{way_of}
use Rattle.reql_term.specs.declared.op.Op.{Op}
use Rattle.reql_term.specs.declared.op.Op.TheVariants as op
use Rattle.reql_term.specs.declared.role.Way.{Way}
use Rattle.reql_rules.specs.Lists.{Bytes}
use Rattle.reql_faults.specs.Places.{first, second, option, text_at}
use Rattle.reql_faults.specs.Shapes.{part_of, is_table_part, is_table, is_table_at, range_by, is_range, is_first_range, differ, source_by, is_source, order_name, order_over, order_by, is_order, is_order_at, are_ranges, are_arms, shape_if, shape_by, shape}
use Rattle.reql_faults.specs.declared.shape.Shape.{Shape}
use Rattle.reql_faults.specs.declared.shape.Shape.TheVariants as shapes
use Rattle.reql_catalog.specs.Catalog.{Named}
use Rattle.reql_value_spec.specs.World.{World}
use Rattle.reql_write_spec.specs.Selecting.{slots, slots_of, slots_named}
use Rattle.reql_feed_spec.specs.declared.kind.FeedKind.{FeedKind}
use Rattle.reql_feed_spec.specs.declared.kind.FeedKind.TheVariants as kinds
use Rattle.reql_table_spec.specs.Followed.{first_slot, shape_index}
use Rattle.reql_table_spec.specs.Followed as law
use Rattle.reql_table_spec.proofs.Closed.{then_ok, same_ok}
use Rattle.reql_table_spec.proofs.Reading.{both}
use Rattle.reql_plan_spec.specs.declared.parts.Opening.{Opening}
use Rattle.reql_plan_spec.specs.Feeding.{Told, Feeding, row_test, count_in, name_of_order, between_name, agrees, single, limit_index, opening, openings, range_opening, range_openings, limit_opening, feed_settled, all_settled, followed, shape_there, note_of, told, feeding}
use Rattle.reql_plan_spec.specs.Follows.{is_planned, are_planned}
use Rattle.reql_plan_spec.specs.Held.{Held, key_of}
use Rattle.reql_plan_spec.specs.Reads.{args_of, options_of}
use Rattle.reql_plan_spec.specs.Settled.{there, settled, first_settled, arguments, named_arguments, keeps_argument, keeps_option, options_given}
use Rattle.reql_plan_spec.specs.Theirs.{table_of, first_table, terms_as, terms_of, kind_as, index_as, IsItsOwn, AreTheirOwn, AreOf, IsOfItsTable, OpeningsAreTheirs, PlannedOpeningsAreTheirs, AskedOpeningsAreTheirs}
use Rattle.reql_plan_spec.proofs.Carried.{carried_sound}
use Rattle.reql_plan_spec.proofs.Follows.{planned_fits, shape_on, shape_is}
use Rattle.reql_plan_spec.proofs.Opened.{range_is, arms_are, args_planned, one_settled, opened, options_told, all_followed, shaped, shape_is_there}
use Rattle.reql_plan_spec.proofs.Opens.{always_asked}

-- ---- a settled term is on the same table
mutual
  same_table : (w : World) (f g : Form) → settled row_test w f ≡ Ok g → table_of g ≡ table_of f
  same_table w (operation o fs ms) g h =
      let a = then_ok (first_settled row_test w (way_of o) fs) (λ gs. named_arguments (keeps_option (way_of o)) w ms >>= λ ns. row_test o gs ns >>= λ _. Ok (operation o (forms_of gs) (named_of ns))) g h in
      let b = then_ok (named_arguments (keeps_option (way_of o)) w ms) (λ ns. row_test o a.0 ns >>= λ _. Ok (operation o (forms_of a.0) (named_of ns))) g a.2 in
      let c = then_ok (row_test o a.0 b.0) (λ _. Ok (operation o (forms_of a.0) (named_of b.0))) g b.2 in
      subst (λ x. table_of x ≡ first_table fs) (same_ok (operation o (forms_of a.0) (named_of b.0)) g c.2) (same_first w (way_of o) fs a.0 a.1)
  same_table w (literal d) g h = subst (λ x. table_of x ≡ None) (same_ok (literal d) g h) refl
  same_table w (several fs) g h = subst (λ x. table_of x ≡ None) (same_ok (several fs) g h) refl
  same_table w (keyed ms) g h = subst (λ x. table_of x ≡ None) (same_ok (keyed ms) g h) refl
  same_table w (variable id) g h = subst (λ x. table_of x ≡ None) (same_ok (variable id) g h) refl
  same_table w implicit g h = subst (λ x. table_of x ≡ None) (same_ok implicit g h) refl
  same_table w (function ids body) g h = subst (λ x. table_of x ≡ None) (same_ok (function ids body) g h) refl
  same_table w (slot n) g h = subst (λ x. table_of x ≡ Some n) (same_ok (slot n) g h) refl

  same_first : (w : World) (by : Way) (fs : Forms) (gs : List Form) → first_settled row_test w by fs ≡ Ok gs → first_table (forms_of gs) ≡ first_table fs
  same_first w by no_forms gs h = subst (λ x. first_table (forms_of x) ≡ None) (same_ok [] gs h) refl
  same_first w by (form f fs) gs h =
      let a = then_ok (settled row_test w f) (λ g. arguments (keeps_argument by) w fs >>= λ rest. Ok (g ∷ rest)) gs h in
      let b = then_ok (arguments (keeps_argument by) w fs) (λ rest. Ok (a.0 ∷ rest)) gs a.2 in
      subst (λ x. first_table (forms_of x) ≡ table_of f) (same_ok (a.0 ∷ b.0) gs b.2) (same_table w f a.0 a.1)

-- ---- the table that a term is on stands first in it
abbrev Begins : ℕ → List ℕ → Type 0
Begins n ns = (rest : List ℕ) × (ns ≡ n ∷ rest)

begins_more : (n : ℕ) (xs ys : List ℕ) → Begins n xs → Begins n (xs ++ ys)
begins_more n xs ys b = (b.0 ++ ys, ap (λ zs. zs ++ ys) b.1)

same_slot : (m n : ℕ) → Some m ≡ Some n → m ≡ n
same_slot m n h = cc

mutual
  slots_begin : (f : Form) (n : ℕ) → table_of f ≡ Some n → Begins n (slots f)
  slots_begin (slot m) n h = ([], ap (λ k. k ∷ []) (same_slot m n h))
  slots_begin (operation o fs ms) n h = begins_more n (slots_of fs) (slots_named ms) (first_begins fs n h)
  slots_begin (literal d) n h = absurd (cc (h))
  slots_begin (several fs) n h = absurd (cc (h))
  slots_begin (keyed ms) n h = absurd (cc (h))
  slots_begin (variable id) n h = absurd (cc (h))
  slots_begin implicit n h = absurd (cc (h))
  slots_begin (function ids body) n h = absurd (cc (h))

  first_begins : (fs : Forms) (n : ℕ) → first_table fs ≡ Some n → Begins n (slots_of fs)
  first_begins (form f fs) n h = begins_more n (slots f) (slots_of fs) (slots_begin f n h)
  first_begins no_forms n h = absurd (cc (h))

first_is : (f : Form) (n : ℕ) → table_of f ≡ Some n → first_slot (slots f) ≡ n
first_is f n h = ap first_slot (slots_begin f n h).1

-- ---- a term that a feed may follow is on a table
abbrev Stands : Form → Type 0
Stands f = (n : ℕ) × (table_of f ≡ Some n)

abbrev FirstStands : Forms → Type 0
FirstStands fs = (n : ℕ) × (first_table fs ≡ Some n)

table_stands : (f : Form) → is_table f ≡ true → is_planned f ≡ true → Stands f
table_stands (slot n) t p = (n, refl)
table_stands (operation o fs ms) t p = absurd (let e : true ≡ false = sym t ∙ (planned_fits o fs ms p).looked_up in cc)
table_stands (literal d) t p = absurd (cc (t))
table_stands (several fs) t p = absurd (cc (t))
table_stands (keyed ms) t p = absurd (cc (t))
table_stands (variable id) t p = absurd (cc (t))
table_stands implicit t p = absurd (cc (t))
table_stands (function ids body) t p = absurd (cc (t))

first_table_stands : (fs : Forms) → is_table_at (first fs) ≡ true → are_planned fs ≡ true → FirstStands fs
first_table_stands no_forms t p = absurd (cc (t))
first_table_stands (form f fs) t p = table_stands f t (both (is_planned f) (are_planned fs) p).0

pub on_first : (o : Op) (on_table on_range : Bool) → is_table_part (part_of o) ≡ false → range_by (part_of o) on_table on_range ≡ true → (on_table ≡ true) ⊎ (on_range ≡ true)
on_first op.Table t r k h = absurd (cc (k))
on_first op.Between t r k h = inl h
on_first op.GetAll t r k h = inl h
on_first op.Filter t r k h = inr h
on_first op.Map t r k h = inr h
on_first op.Pluck t r k h = inr h
on_first op.Without t r k h = inr h
on_first op.Merge t r k h = inr h
on_first op.HasFields t r k h = inr h
on_first op.WithFields t r k h = inr h
on_first o t r k h = absurd (cc (h))

mutual
  range_stands : (f : Form) → is_range f ≡ true → is_planned f ≡ true → Stands f
  range_stands (slot n) r p = (n, refl)
  range_stands (operation o fs ms) r p =
      let q = planned_fits o fs ms p in
      elim (on_first o (is_table_at (first fs)) (is_first_range fs) q.looked_up r) [
        | inl t ↦ first_table_stands fs t q.arguments
        | inr s ↦ first_range_stands fs s q.arguments
      ]
  range_stands (literal d) r p = absurd (cc (r))
  range_stands (several fs) r p = absurd (cc (r))
  range_stands (keyed ms) r p = absurd (cc (r))
  range_stands (variable id) r p = absurd (cc (r))
  range_stands implicit r p = absurd (cc (r))
  range_stands (function ids body) r p = absurd (cc (r))

  first_range_stands : (fs : Forms) → is_first_range fs ≡ true → are_planned fs ≡ true → FirstStands fs
  first_range_stands no_forms r p = absurd (cc (r))
  first_range_stands (form f fs) r p = range_stands f r (both (is_planned f) (are_planned fs) p).0

pub source_on : (o : Op) (name : Option (List ℕ)) (f index : Option Form) → is_table_part (part_of o) ≡ false → source_by (part_of o) name f index ≡ true → is_table_at f ≡ true
source_on op.Table name f index k h = absurd (cc (k))
source_on op.Between name f index k h = (both (is_table_at f) (not (differ name (text_at index))) h).0
source_on o name f index k h = absurd (cc (h))

source_stands : (name : Option (List ℕ)) (f : Form) → is_source name f ≡ true → is_planned f ≡ true → Stands f
source_stands name (slot n) s p = (n, refl)
source_stands name (operation o fs ms) s p =
    let q = planned_fits o fs ms p in
    first_table_stands fs (source_on o name (first fs) (option (codes "index") ms) q.looked_up s) q.arguments
source_stands name (literal d) s p = absurd (cc (s))
source_stands name (several fs) s p = absurd (cc (s))
source_stands name (keyed ms) s p = absurd (cc (s))
source_stands name (variable id) s p = absurd (cc (s))
source_stands name implicit s p = absurd (cc (s))
source_stands name (function ids body) s p = absurd (cc (s))

over_stands : (index : Option Form) (fs : Forms) → order_over index fs ≡ true → are_planned fs ≡ true → FirstStands fs
over_stands None fs o p = absurd (cc (o))
over_stands (Some index) no_forms o p = absurd (cc (o))
over_stands (Some index) (form f no_forms) o p = source_stands (order_name index) f o (both (is_planned f) true p).0
over_stands (Some index) (form f (form g gs)) o p = absurd (cc (o))

pub ordered_over : (o : Op) (fs : Forms) (ms : NamedForms) → order_by (part_of o) fs ms ≡ true → order_over (option (codes "index") ms) fs ≡ true
ordered_over op.OrderBy fs ms h = h
ordered_over o fs ms h = absurd (cc (h))

order_stands : (f : Form) → is_order f ≡ true → is_planned f ≡ true → Stands f
order_stands (operation o fs ms) h p = over_stands (option (codes "index") ms) fs (ordered_over o fs ms h) (planned_fits o fs ms p).arguments
order_stands (slot n) h p = absurd (cc (h))
order_stands (literal d) h p = absurd (cc (h))
order_stands (several fs) h p = absurd (cc (h))
order_stands (keyed ms) h p = absurd (cc (h))
order_stands (variable id) h p = absurd (cc (h))
order_stands implicit h p = absurd (cc (h))
order_stands (function ids body) h p = absurd (cc (h))

first_order_stands : (fs : Forms) → is_order_at (first fs) ≡ true → are_planned fs ≡ true → FirstStands fs
first_order_stands no_forms h p = absurd (cc (h))
first_order_stands (form f fs) h p = order_stands f h (both (is_planned f) (are_planned fs) p).0

pub point_on : (o : Op) (fs : Forms) (range : Bool) → shape_by (part_of o) fs range ≡ Some shapes.Point → is_table_at (first fs) ≡ true
point_on op.Get fs range s = shape_on shapes.Point shapes.Point (is_table_at (first fs)) s
point_on op.Limit fs range s = absurd (let e : shapes.Limit ≡ shapes.Point = shape_is shapes.Limit shapes.Point (is_order_at (first fs)) s in cc)
point_on op.Union fs range s = absurd (let e : shapes.United ≡ shapes.Point = shape_is shapes.United shapes.Point (are_arms fs) s in cc)
point_on o fs range s = absurd (let e : shapes.Range ≡ shapes.Point = shape_is shapes.Range shapes.Point range s in cc)

pub limit_on : (o : Op) (fs : Forms) (range : Bool) → shape_by (part_of o) fs range ≡ Some shapes.Limit → is_order_at (first fs) ≡ true
limit_on op.Limit fs range s = shape_on shapes.Limit shapes.Limit (is_order_at (first fs)) s
limit_on op.Get fs range s = absurd (let e : shapes.Point ≡ shapes.Limit = shape_is shapes.Point shapes.Limit (is_table_at (first fs)) s in cc)
limit_on op.Union fs range s = absurd (let e : shapes.United ≡ shapes.Limit = shape_is shapes.United shapes.Limit (are_arms fs) s in cc)
limit_on o fs range s = absurd (let e : shapes.Range ≡ shapes.Limit = shape_is shapes.Range shapes.Limit range s in cc)

point_stands : (f : Form) → shape f ≡ Some shapes.Point → is_planned f ≡ true → Stands f
point_stands (operation o fs ms) s p = first_table_stands fs (point_on o fs (is_range (operation o fs ms)) s) (planned_fits o fs ms p).arguments
point_stands (slot n) s p = absurd (cc (s))
point_stands (literal d) s p = absurd (cc (s))
point_stands (several fs) s p = absurd (cc (s))
point_stands (keyed ms) s p = absurd (cc (s))
point_stands (variable id) s p = absurd (cc (s))
point_stands implicit s p = absurd (cc (s))
point_stands (function ids body) s p = absurd (cc (s))

limit_stands : (f : Form) → shape f ≡ Some shapes.Limit → is_planned f ≡ true → Stands f
limit_stands (operation o fs ms) s p = first_order_stands fs (limit_on o fs (is_range (operation o fs ms)) s) (planned_fits o fs ms p).arguments
limit_stands (slot n) s p = absurd (cc (s))
limit_stands (literal d) s p = absurd (cc (s))
limit_stands (several fs) s p = absurd (cc (s))
limit_stands (keyed ms) s p = absurd (cc (s))
limit_stands (variable id) s p = absurd (cc (s))
limit_stands implicit s p = absurd (cc (s))
limit_stands (function ids body) s p = absurd (cc (s))

-- a range has the shape of one
range_shaped : (o : Op) (fs : Forms) (on_table on_range : Bool) → range_by (part_of o) on_table on_range ≡ true → shape_by (part_of o) fs (range_by (part_of o) on_table on_range) ≡ Some shapes.Range
range_shaped op.Table fs t r h = refl
range_shaped op.Between fs t r h = ap (λ b. shape_if shapes.Range b) h
range_shaped op.GetAll fs t r h = ap (λ b. shape_if shapes.Range b) h
range_shaped op.Filter fs t r h = ap (λ b. shape_if shapes.Range b) h
range_shaped op.Map fs t r h = ap (λ b. shape_if shapes.Range b) h
range_shaped op.Pluck fs t r h = ap (λ b. shape_if shapes.Range b) h
range_shaped op.Without fs t r h = ap (λ b. shape_if shapes.Range b) h
range_shaped op.Merge fs t r h = ap (λ b. shape_if shapes.Range b) h
range_shaped op.HasFields fs t r h = ap (λ b. shape_if shapes.Range b) h
range_shaped op.WithFields fs t r h = ap (λ b. shape_if shapes.Range b) h
range_shaped o fs t r h = absurd (cc (h))

shape_of_range : (f : Form) → is_range f ≡ true → shape f ≡ Some shapes.Range
shape_of_range (slot n) r = refl
shape_of_range (operation o fs ms) r = range_shaped o fs (is_table_at (first fs)) (is_first_range fs) r
shape_of_range (literal d) r = absurd (cc (r))
shape_of_range (several fs) r = absurd (cc (r))
shape_of_range (keyed ms) r = absurd (cc (r))
shape_of_range (variable id) r = absurd (cc (r))
shape_of_range implicit r = absurd (cc (r))
shape_of_range (function ids body) r = absurd (cc (r))

-- ---- each opening
module _ {A B : Type 0} where
  then_is : (a : Answer A) (f : A → Answer B) (x : A) (b : Answer B) → a ≡ Ok x → f x ≡ b → (a >>= f) ≡ b
  then_is a f x b h k = ap (λ z. z >>= f) h ∙ k

module _ (e : Held) (t : Told) where
  own : (f g : Form) (index : Option Bytes) (kind : FeedKind) → Stands f → settled row_test e.world f ≡ Ok g → kind_as (shape f) g ≡ Ok kind → index_as (shape f) g ≡ Ok index
      → IsItsOwn e t f (opening e t g index kind)
  own f g index kind on h k i = record {
    table = on.1 ∙ ap (λ n. Some n) (sym (first_is g on.0 (same_table e.world f g h ∙ on.1)));
    key = refl;
    term = h;
    kind = k;
    index = i;
    size = refl;
    offsets = refl;
    types = refl;
    squash = refl;
  }

  range_own : (f g : Form) (o : Opening) → is_range f ≡ true → is_planned f ≡ true → feed_settled e f ≡ Ok g → range_opening e t g ≡ Ok o → IsItsOwn e t f o
  range_own f g o r p s h =
      let i = then_ok (shape_index g) (λ index. Ok (opening e t g index kinds.Range)) o h in
      let is = shape_of_range f r in
      subst (IsItsOwn e t f) (same_ok (opening e t g i.0 kinds.Range) o i.2)
      (own f g i.0 kinds.Range (range_stands f r p) s (ap (λ x. kind_as x g) is) (ap (λ x. index_as x g) is ∙ i.1))

  point_own : (f g : Form) → shape f ≡ Some shapes.Point → is_planned f ≡ true → feed_settled e f ≡ Ok g → IsItsOwn e t f (opening e t g None kinds.Point)
  point_own f g is p s = own f g None kinds.Point (point_stands f is p) s (ap (λ x. kind_as x g) is) (ap (λ x. index_as x g) is)

  -- the name that a limit feed's index is tested by
  name_tested : (order : Form) (name : Bytes) → limit_index e order ≡ Ok name → name_of_order order ≡ Ok name
  name_tested order name h =
      let a = then_ok (name_of_order order) (λ n. there (first (args_of order)) >>= λ f. agrees n (between_name (key_of e.names (first_slot (slots f))) f) >>= λ _. single e.world (first_slot (slots f)) n >>= λ _. Ok n) name h in
      let b = then_ok (there (first (args_of order))) (λ f. agrees a.0 (between_name (key_of e.names (first_slot (slots f))) f) >>= λ _. single e.world (first_slot (slots f)) a.0 >>= λ _. Ok a.0) name a.2 in
      let c = then_ok (agrees a.0 (between_name (key_of e.names (first_slot (slots b.0))) b.0)) (λ _. single e.world (first_slot (slots b.0)) a.0 >>= λ _. Ok a.0) name b.2 in
      let d = then_ok (single e.world (first_slot (slots b.0)) a.0) (λ _. Ok a.0) name c.2 in
      subst (λ n. name_of_order order ≡ Ok n) (same_ok a.0 name d.2) a.1

  limit_own : (f g : Form) (o : Opening) → shape f ≡ Some shapes.Limit → is_planned f ≡ true → feed_settled e f ≡ Ok g → limit_opening e t g ≡ Ok o → IsItsOwn e t f o
  limit_own f g o is p s h =
      let a = then_ok (there (first (args_of g))) (λ order. limit_index e order >>= λ name. there (second (args_of g)) >>= λ c. count_in c >>= λ n. Ok (opening e t g (Some name) (kinds.Limit n))) o h in
      let b = then_ok (limit_index e a.0) (λ name. there (second (args_of g)) >>= λ c. count_in c >>= λ n. Ok (opening e t g (Some name) (kinds.Limit n))) o a.2 in
      let c = then_ok (there (second (args_of g))) (λ c. count_in c >>= λ n. Ok (opening e t g (Some b.0) (kinds.Limit n))) o b.2 in
      let d = then_ok (count_in c.0) (λ n. Ok (opening e t g (Some b.0) (kinds.Limit n))) o c.2 in
      let kind : kind_as (Some shapes.Limit) g ≡ Ok (kinds.Limit d.0) = then_is (there (second (args_of g))) (λ c. count_in c >>= λ n. Ok (kinds.Limit n)) c.0 (Ok (kinds.Limit d.0)) c.1
      (then_is (count_in c.0) (λ n. Ok (kinds.Limit n)) d.0 (Ok (kinds.Limit d.0)) d.1 refl) in
      let index : index_as (Some shapes.Limit) g ≡ Ok (Some b.0) = then_is (there (first (args_of g))) (λ order. name_of_order order >>= λ name. Ok (Some name)) a.0 (Ok (Some b.0)) a.1
      (then_is (name_of_order a.0) (λ name. Ok (Some name)) b.0 (Ok (Some b.0)) (name_tested a.0 b.0 b.1) refl) in
      subst (IsItsOwn e t f) (same_ok (opening e t g (Some b.0) (kinds.Limit d.0)) o d.2)
      (own f g (Some b.0) (kinds.Limit d.0) (limit_stands f is p) s (ap (λ x. kind_as x g) is ∙ kind) (ap (λ x. index_as x g) is ∙ index))

  abbrev AllTheirs : List Form → List Opening → Type 0
  AllTheirs fs os = AreTheirOwn e t fs os

  ranges_own : (fs : Forms) (gs : List Form) (os : List Opening) → are_ranges fs ≡ true → are_planned fs ≡ true → all_settled e fs ≡ Ok gs → range_openings e t gs ≡ Ok os → AllTheirs (law.arguments fs) os
  ranges_own no_forms gs os r p h opens =
      let none : range_openings e t [] ≡ Ok os = subst (λ x. range_openings e t x ≡ Ok os) (sym (same_ok [] gs h)) opens in
      subst (AllTheirs []) (same_ok [] os none) tt
  ranges_own (form f fs) gs os r p h opens =
      let q = both (is_range f) (are_ranges fs) r in
      let s = both (is_planned f) (are_planned fs) p in
      let a = then_ok (feed_settled e f) (λ g. all_settled e fs >>= λ rest. Ok (g ∷ rest)) gs h in
      let b = then_ok (all_settled e fs) (λ rest. Ok (a.0 ∷ rest)) gs a.2 in
      let opened : range_openings e t (a.0 ∷ b.0) ≡ Ok os = subst (λ x. range_openings e t x ≡ Ok os) (sym (same_ok (a.0 ∷ b.0) gs b.2)) opens in
      let o = then_ok (range_opening e t a.0) (λ o. range_openings e t b.0 >>= λ rest. Ok (o ∷ rest)) os opened in
      let rest = then_ok (range_openings e t b.0) (λ rest. Ok (o.0 ∷ rest)) os o.2 in
      subst (AllTheirs (f ∷ law.arguments fs)) (same_ok (o.0 ∷ rest.0) os rest.2) (range_own f a.0 o.0 q.0 s.0 a.1 o.1, ranges_own fs b.0 rest.0 q.1 s.1 b.1 rest.1)

  openings_own : (s : Shape) (f : Form) (gs : List Form) (os : List Opening) → shape f ≡ Some s → is_planned f ≡ true → followed e s f ≡ Ok gs → openings e t s gs ≡ Ok os → AllTheirs (terms_as (Some s) f) os
  openings_own shapes.Point f gs os is p h opens =
      let a = one_settled e t f gs h in
      let opened : openings e t shapes.Point (a.0 ∷ []) ≡ Ok os = subst (λ x. openings e t shapes.Point x ≡ Ok os) (sym a.2) opens in
      subst (AllTheirs (f ∷ [])) (same_ok (opening e t a.0 None kinds.Point ∷ []) os opened) (point_own f a.0 is p a.1, tt)
  openings_own shapes.Limit f gs os is p h opens =
      let a = one_settled e t f gs h in
      let opened : openings e t shapes.Limit (a.0 ∷ []) ≡ Ok os = subst (λ x. openings e t shapes.Limit x ≡ Ok os) (sym a.2) opens in
      let o = then_ok (limit_opening e t a.0) (λ o. Ok (o ∷ [])) os opened in
      subst (AllTheirs (f ∷ [])) (same_ok (o.0 ∷ []) os o.2) (limit_own f a.0 o.0 is p a.1 o.1, tt)
  openings_own shapes.Range f gs os is p h opens =
      let a = one_settled e t f gs h in
      let opened : range_openings e t (a.0 ∷ []) ≡ Ok os = subst (λ x. range_openings e t x ≡ Ok os) (sym a.2) opens in
      let o = then_ok (range_opening e t a.0) (λ o. Ok (o ∷ [])) os opened in
      subst (AllTheirs (f ∷ [])) (same_ok (o.0 ∷ []) os o.2) (range_own f a.0 o.0 (range_is f is) p a.1 o.1, tt)
  openings_own shapes.United f gs os is p h opens =
      let a = then_ok (all_settled e (args_of f)) (λ gs. options_given e.world (options_of f) >>= λ _. Ok gs) gs h in
      let b = then_ok (options_given e.world (options_of f)) (λ _. Ok a.0) gs a.2 in
      ranges_own (args_of f) gs os (arms_are f is) (args_planned f p) (subst (λ x. all_settled e (args_of f) ≡ Ok x) (same_ok a.0 gs b.2) a.1) opens

-- ---- the feeds of a request
module _ (e : Held) (ms : NamedForms) where
  feed_own : (f : Form) (fs : Forms) (x : Feeding) → is_planned f ≡ true → (shape_there (shape f) >>= shaped e ms f) ≡ Ok x → AreOf e (form f fs) ms x
  feed_own f fs x p h =
      let s = then_ok (shape_there (shape f)) (shaped e ms f) x h in
      let gs = then_ok (followed e s.0 f) (all_followed e ms s.0) x s.2 in
      let os = then_ok (options_given e.world ms) (options_told e ms s.0 gs.0) x gs.2 in
      let t = then_ok (told ms os.0) (opened e ms s.0 gs.0) x os.2 in
      let o = then_ok (openings e t.0 s.0 gs.0) (λ os. Ok (record { openings = os; note = note_of s.0; told = t.0 })) x t.2 in
      let is = shape_is_there e ms (shape f) s.0 s.1 in
      let options : (options_given e.world ms >>= λ os. told ms os) ≡ Ok t.0 = then_is (options_given e.world ms) (λ os. told ms os) os.0 (Ok t.0) os.1 t.1 in
      let own : AreTheirOwn e t.0 (terms_of (form f fs)) o.0 = subst (λ y. AreTheirOwn e t.0 (terms_as y f) o.0) (sym is) (openings_own e t.0 s.0 f gs.0 o.0 is p gs.1 o.1) in
      subst (AreOf e (form f fs) ms) (same_ok (record { openings = o.0; note = note_of s.0; told = t.0 }) x o.2) (record { options = options; openings = own })

pub openings_are_theirs : OpeningsAreTheirs
openings_are_theirs e (form f fs) ms x p h = feed_own e ms f fs x (both (is_planned f) (are_planned fs) p).0 h
openings_are_theirs e no_forms ms x p h = absurd (cc (h))

pub planned_openings_are_theirs : PlannedOpeningsAreTheirs
planned_openings_are_theirs ns db moment f fs ms e x asked none h opens =
    openings_are_theirs e fs ms x (carried_sound ns db moment f (operation op.Changes fs ms) asked none h) opens

-- ---- and what a plan asks a slot for
abbrev OfItsTable : Named → Opening → Type 0
OfItsTable known o = IsOfItsTable known o.slot o.spec

own_table : (e : Held) (t : Told) (f : Form) (o : Opening) → IsItsOwn e t f o → OfItsTable e.names o
own_table e t f o is = record { table = same_table e.world f o.spec.shape is.term ∙ is.table; key = is.key }

all_own : (e : Held) (t : Told) (fs : List Form) (os : List Opening) → AreTheirOwn e t fs os → AllByRecursion (OfItsTable e.names) os
all_own e t [] [] is = tt
all_own e t (f ∷ fs) (o ∷ os) is = (own_table e t f o is.0, all_own e t fs os is.1)
all_own e t [] (o ∷ os) is = absurd is
all_own e t (f ∷ fs) [] is = absurd is

of_their_tables : (known : Named) (e : Held) (fs : Forms) (ms : NamedForms) (x : Feeding) → e.names ≡ known → are_planned fs ≡ true → feeding e fs ms ≡ Ok x
    → AllByRecursion (λ o. IsOfItsTable known o.slot o.spec) x.openings
of_their_tables known e fs ms x own planned opens =
    subst (λ ns. AllByRecursion (OfItsTable ns) x.openings) own (all_own e x.told (terms_of fs) x.openings (openings_are_theirs e fs ms x planned opens).openings)

pub asked_openings_are_theirs : AskedOpeningsAreTheirs
asked_openings_are_theirs p s known hs n order spec asked none h is = always_asked (IsOfItsTable known) (Unit {0}) known tt (of_their_tables known) p s hs n order spec asked none h is
