-- Every feed that a request opens is followed.
use Rattle.std.proofs.Common.{◌≡◌, List, [], ◌∷◌, true, ◌&&◌, nat_le, Option, Some, None, Ok, refl, sym, ap, subst}
use Rattle.std.specs.List.{AllByRecursion}
use Rattle.reql_datum.specs.Answer.{Answer, ◌>>=◌}
use Rattle.reql_term.specs.Form.{Form, literal, several, keyed, variable, implicit, function, slot, operation, Forms, no_forms, form, NamedForms}
use Rattle.reql_term.specs.declared.op.Op.{Op}
use Rattle.reql_term.specs.declared.op.Op.TheVariants as op
use Rattle.reql_faults.specs.Places.{first, count}
use Rattle.reql_faults.specs.Shapes.{is_table_at, is_order_at, is_range, are_ranges, are_arms, shape}
use Rattle.reql_faults.specs.declared.shape.Shape.{Shape}
use Rattle.reql_faults.specs.declared.shape.Shape.TheVariants as shapes
use Rattle.reql_value_spec.specs.Meant.{Options}
use Rattle.reql_feed_spec.specs.declared.kind.FeedKind.TheVariants as kinds
use Rattle.reql_table_spec.proofs.Closed.{then_ok, same_ok}
use Rattle.reql_table_spec.proofs.Reading.{both}
use Rattle.reql_plan_spec.specs.declared.parts.Opening.{Opening}
use Rattle.reql_plan_spec.specs.Feeding.{Told, Feeding, opening, openings, range_opening, range_openings, limit_opening, feed_settled, all_settled, followed, shape_there, note_of, told}
use Rattle.reql_plan_spec.specs.Follows.{IsRead, is_planned, are_planned, FeedsAreRead}
use Rattle.reql_plan_spec.specs.Held.{Held}
use Rattle.reql_plan_spec.specs.Reads.{args_of, options_of}
use Rattle.reql_plan_spec.specs.Settled.{options_given}
use Rattle.reql_plan_spec.proofs.Follows.{planned_fits, shape_on, shape_is, points_are_read, ranges_are_read}
use Rattle.reql_plan_spec.proofs.Limits.{limits_are_read}

abbrev AllRead : List Opening → Type 0
AllRead os = AllByRecursion (λ o. IsRead o.spec) os

-- ---- what terms of ranges are
range_by : (o : Op) (fs : Forms) (ms : NamedForms) → shape (operation o fs ms) ≡ Some shapes.Range → is_range (operation o fs ms) ≡ true
range_by op.Get fs ms s = absurd (let e : shapes.Point ≡ shapes.Range = shape_is shapes.Point shapes.Range (is_table_at (first fs)) s in cc)
range_by op.Limit fs ms s = absurd (let e : shapes.Limit ≡ shapes.Range = shape_is shapes.Limit shapes.Range (is_order_at (first fs)) s in cc)
range_by op.Union fs ms s = absurd (let e : shapes.United ≡ shapes.Range = shape_is shapes.United shapes.Range (are_arms fs) s in cc)
range_by o fs ms s = shape_on shapes.Range shapes.Range (is_range (operation o fs ms)) s

pub range_is : (f : Form) → shape f ≡ Some shapes.Range → is_range f ≡ true
range_is (slot n) s = refl
range_is (operation o fs ms) s = range_by o fs ms s
range_is (literal d) s = absurd (cc (s))
range_is (several fs) s = absurd (cc (s))
range_is (keyed ms) s = absurd (cc (s))
range_is (variable id) s = absurd (cc (s))
range_is implicit s = absurd (cc (s))
range_is (function ids body) s = absurd (cc (s))

arms_by : (o : Op) (fs : Forms) (ms : NamedForms) → shape (operation o fs ms) ≡ Some shapes.United → are_ranges fs ≡ true
arms_by op.Union fs ms s =
    let arms = shape_on shapes.United shapes.United (are_arms fs) s in
    (both (nat_le (count fs) 16) (are_ranges fs) (both (nat_le 2 (count fs)) (nat_le (count fs) 16 && are_ranges fs) arms).1).1
arms_by op.Get fs ms s = absurd (let e : shapes.Point ≡ shapes.United = shape_is shapes.Point shapes.United (is_table_at (first fs)) s in cc)
arms_by op.Limit fs ms s = absurd (let e : shapes.Limit ≡ shapes.United = shape_is shapes.Limit shapes.United (is_order_at (first fs)) s in cc)
arms_by o fs ms s = absurd (let e : shapes.Range ≡ shapes.United = shape_is shapes.Range shapes.United (is_range (operation o fs ms)) s in cc)

pub arms_are : (f : Form) → shape f ≡ Some shapes.United → are_ranges (args_of f) ≡ true
arms_are (operation o fs ms) s = arms_by o fs ms s
arms_are (slot n) s = absurd (cc (s))
arms_are (literal d) s = absurd (cc (s))
arms_are (several fs) s = absurd (cc (s))
arms_are (keyed ms) s = absurd (cc (s))
arms_are (variable id) s = absurd (cc (s))
arms_are implicit s = absurd (cc (s))
arms_are (function ids body) s = absurd (cc (s))

pub args_planned : (f : Form) → is_planned f ≡ true → are_planned (args_of f) ≡ true
args_planned (operation o fs ms) p = (planned_fits o fs ms p).arguments
args_planned (slot n) p = refl
args_planned (literal d) p = refl
args_planned (several fs) p = refl
args_planned (keyed ms) p = refl
args_planned (variable id) p = refl
args_planned implicit p = refl
args_planned (function ids body) p = refl

module _ (e : Held) (t : Told) where
  ranges_read : (fs : Forms) (gs : List Form) (os : List Opening) → are_ranges fs ≡ true → are_planned fs ≡ true → all_settled e fs ≡ Ok gs → range_openings e t gs ≡ Ok os → AllRead os
  ranges_read no_forms gs os r p h opens =
      let none : range_openings e t [] ≡ Ok os = subst (λ x. range_openings e t x ≡ Ok os) (sym (same_ok [] gs h)) opens in
      subst AllRead (same_ok [] os none) tt
  ranges_read (form f fs) gs os r p h opens =
      let q = both (is_range f) (are_ranges fs) r in
      let s = both (is_planned f) (are_planned fs) p in
      let a = then_ok (feed_settled e f) (λ g. all_settled e fs >>= λ rest. Ok (g ∷ rest)) gs h in
      let b = then_ok (all_settled e fs) (λ rest. Ok (a.0 ∷ rest)) gs a.2 in
      let opened : range_openings e t (a.0 ∷ b.0) ≡ Ok os = subst (λ x. range_openings e t x ≡ Ok os) (sym (same_ok (a.0 ∷ b.0) gs b.2)) opens in
      let o = then_ok (range_opening e t a.0) (λ o. range_openings e t b.0 >>= λ rest. Ok (o ∷ rest)) os opened in
      let rest = then_ok (range_openings e t b.0) (λ rest. Ok (o.0 ∷ rest)) os o.2 in
      subst AllRead (same_ok (o.0 ∷ rest.0) os rest.2) (ranges_are_read e t f a.0 o.0 q.0 s.0 a.1 o.1, ranges_read fs b.0 rest.0 q.1 s.1 b.1 rest.1)

  pub one_settled : (f : Form) (gs : List Form) → (feed_settled e f >>= λ g. Ok (g ∷ [])) ≡ Ok gs → (g : Form) × (feed_settled e f ≡ Ok g) × (g ∷ [] ≡ gs)
  one_settled f gs h =
      let a = then_ok (feed_settled e f) (λ g. Ok (g ∷ [])) gs h in
      (a.0, a.1, same_ok (a.0 ∷ []) gs a.2)

  openings_read : (s : Shape) (f : Form) (gs : List Form) (os : List Opening) → shape f ≡ Some s → is_planned f ≡ true → followed e s f ≡ Ok gs → openings e t s gs ≡ Ok os → AllRead os
  openings_read shapes.Point f gs os is p h opens =
      let a = one_settled f gs h in
      let opened : openings e t shapes.Point (a.0 ∷ []) ≡ Ok os = subst (λ x. openings e t shapes.Point x ≡ Ok os) (sym a.2) opens in
      subst AllRead (same_ok (opening e t a.0 None kinds.Point ∷ []) os opened) (points_are_read e t f a.0 is p a.1, tt)
  openings_read shapes.Limit f gs os is p h opens =
      let a = one_settled f gs h in
      let opened : openings e t shapes.Limit (a.0 ∷ []) ≡ Ok os = subst (λ x. openings e t shapes.Limit x ≡ Ok os) (sym a.2) opens in
      let o = then_ok (limit_opening e t a.0) (λ o. Ok (o ∷ [])) os opened in
      subst AllRead (same_ok (o.0 ∷ []) os o.2) (limits_are_read e t f a.0 o.0 is p a.1 o.1, tt)
  openings_read shapes.Range f gs os is p h opens =
      let a = one_settled f gs h in
      let opened : range_openings e t (a.0 ∷ []) ≡ Ok os = subst (λ x. range_openings e t x ≡ Ok os) (sym a.2) opens in
      let o = then_ok (range_opening e t a.0) (λ o. Ok (o ∷ [])) os opened in
      subst AllRead (same_ok (o.0 ∷ []) os o.2) (ranges_are_read e t f a.0 o.0 (range_is f is) p a.1 o.1, tt)
  openings_read shapes.United f gs os is p h opens =
      let a = then_ok (all_settled e (args_of f)) (λ gs. options_given e.world (options_of f) >>= λ _. Ok gs) gs h in
      let b = then_ok (options_given e.world (options_of f)) (λ _. Ok a.0) gs a.2 in
      ranges_read (args_of f) gs os (arms_are f is) (args_planned f p) (subst (λ x. all_settled e (args_of f) ≡ Ok x) (same_ok a.0 gs b.2) a.1) opens

-- ---- the feeds of a request
module _ (e : Held) (ms : NamedForms) where
  abbrev pub opened : Shape → List Form → Told → Answer Feeding
  opened s gs t = openings e t s gs >>= λ os. Ok (record { openings = os; note = note_of s; told = t })

  abbrev pub options_told : Shape → List Form → Options → Answer Feeding
  options_told s gs os = told ms os >>= opened s gs

  abbrev pub all_followed : Shape → List Form → Answer Feeding
  all_followed s gs = options_given e.world ms >>= options_told s gs

  abbrev pub shaped : Form → Shape → Answer Feeding
  shaped f s = followed e s f >>= all_followed s

  pub shape_is_there : (x : Option Shape) (s : Shape) → shape_there x ≡ Ok s → x ≡ Some s
  shape_is_there None s h = absurd (cc (h))
  shape_is_there (Some r) s h = ap (λ y. Some y) (same_ok r s h)

  feed_read : (f : Form) (x : Feeding) → is_planned f ≡ true → (shape_there (shape f) >>= shaped f) ≡ Ok x → AllRead x.openings
  feed_read f x p h =
      let s = then_ok (shape_there (shape f)) (shaped f) x h in
      let gs = then_ok (followed e s.0 f) (all_followed s.0) x s.2 in
      let os = then_ok (options_given e.world ms) (options_told s.0 gs.0) x gs.2 in
      let t = then_ok (told ms os.0) (opened s.0 gs.0) x os.2 in
      let o = then_ok (openings e t.0 s.0 gs.0) (λ os. Ok (record { openings = os; note = note_of s.0; told = t.0 })) x t.2 in
      let same = same_ok (record { openings = o.0; note = note_of s.0; told = t.0 }) x o.2 in
      subst (λ (y : Feeding). AllRead y.openings) same (openings_read e t.0 s.0 f gs.0 o.0 (shape_is_there (shape f) s.0 s.1) p gs.1 o.1)

pub feeds_are_read : FeedsAreRead
feeds_are_read e (form f fs) ms x p h = feed_read e ms f x (both (is_planned f) (are_planned fs) p).0 h
feeds_are_read e no_forms ms x p h = absurd (cc (h))
