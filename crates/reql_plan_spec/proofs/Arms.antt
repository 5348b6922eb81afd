-- That CHANGES asks for one feed at least.
use Rattle.std.proofs.Common.{◌≡◌, List, [], ◌∷◌, Bool, true, false, Option, Some, None, Ok, ap, subst}
use Rattle.reql_datum.specs.Answer.{Answer, ◌>>=◌}
use Rattle.reql_term.specs.Form.{Form, literal, several, keyed, variable, implicit, function, slot, operation, Forms, no_forms, form, NamedForms}
use Rattle.reql_term.specs.declared.op.Op.{Op}
use Rattle.reql_term.specs.declared.op.Op.TheVariants as op
use Rattle.reql_faults.specs.Places.{first}
use Rattle.reql_faults.specs.Shapes.{is_table_at, is_order_at, is_range, shape_if, shape}
use Rattle.reql_faults.specs.declared.shape.Shape.{Shape}
use Rattle.reql_faults.specs.declared.shape.Shape.TheVariants as shapes
use Rattle.reql_value_spec.specs.Meant.{Options}
use Rattle.reql_feed_spec.specs.declared.kind.FeedKind.TheVariants as kinds
use Rattle.reql_table_spec.proofs.Closed.{then_ok, same_ok}
use Rattle.reql_plan_spec.specs.declared.parts.Opening.{Opening}
use Rattle.reql_plan_spec.specs.Feeding.{Told, Feeding, opening, openings, range_opening, range_openings, limit_opening, feed_settled, all_settled, followed, shape_there, note_of, told, feeding}
use Rattle.reql_plan_spec.specs.Held.{Held}
use Rattle.reql_plan_spec.specs.Reads.{args_of, options_of}
use Rattle.reql_plan_spec.specs.Settled.{options_given}

abbrev pub HasOne : {A : Type 0} → List A → Type 0
HasOne [] = ⊥
HasOne (x ∷ xs) = Unit {0}

abbrev HasForm : Forms → Type 0
HasForm no_forms = ⊥
HasForm (form f fs) = Unit {0}

-- ---- a united feed has arms
of_shape : (s r : Shape) (b : Bool) → shape_if s b ≡ Some r → s ≡ r
of_shape s r true h = cc
of_shape s r false h = absurd (cc (h))

no_range : {A : Type 0} (b : Bool) → shape_if shapes.Range b ≡ Some shapes.United → A
no_range b s = absurd (let e : shapes.Range ≡ shapes.United = of_shape shapes.Range shapes.United b s in cc)

arms_by : (o : Op) (fs : Forms) (ms : NamedForms) → shape (operation o fs ms) ≡ Some shapes.United → HasForm fs
arms_by op.Union no_forms ms s = absurd (cc (s))
arms_by op.Union (form f fs) ms s = tt
arms_by op.Get fs ms s = absurd (let e : shapes.Point ≡ shapes.United = of_shape shapes.Point shapes.United (is_table_at (first fs)) s in cc)
arms_by op.Limit fs ms s = absurd (let e : shapes.Limit ≡ shapes.United = of_shape shapes.Limit shapes.United (is_order_at (first fs)) s in cc)
arms_by o fs ms s = no_range (is_range (operation o fs ms)) s

arms_are : (f : Form) → shape f ≡ Some shapes.United → HasForm (args_of f)
arms_are (operation o fs ms) s = arms_by o fs ms s
arms_are (slot n) s = absurd (cc (s))
arms_are (literal d) s = absurd (cc (s))
arms_are (several fs) s = absurd (cc (s))
arms_are (keyed ms) s = absurd (cc (s))
arms_are (variable id) s = absurd (cc (s))
arms_are implicit s = absurd (cc (s))
arms_are (function ids body) s = absurd (cc (s))

-- ---- from terms to feeds
module _ (e : Held) where
  all_some : (fs : Forms) (gs : List Form) → HasForm fs → all_settled e fs ≡ Ok gs → HasOne gs
  all_some no_forms gs some h = absurd some
  all_some (form f fs) gs some h =
      let a = then_ok (feed_settled e f) (λ g. all_settled e fs >>= λ rest. Ok (g ∷ rest)) gs h in
      let b = then_ok (all_settled e fs) (λ rest. Ok (a.0 ∷ rest)) gs a.2 in
      subst HasOne (same_ok (a.0 ∷ b.0) gs b.2) tt

  one_some : (f : Form) (gs : List Form) → (feed_settled e f >>= λ g. Ok (g ∷ [])) ≡ Ok gs → HasOne gs
  one_some f gs h =
      let a = then_ok (feed_settled e f) (λ g. Ok (g ∷ [])) gs h in
      subst HasOne (same_ok (a.0 ∷ []) gs a.2) tt

  followed_some : (s : Shape) (f : Form) (gs : List Form) → shape f ≡ Some s → followed e s f ≡ Ok gs → HasOne gs
  followed_some shapes.Point f gs is h = one_some f gs h
  followed_some shapes.Limit f gs is h = one_some f gs h
  followed_some shapes.Range f gs is h = one_some f gs h
  followed_some shapes.United f gs is h =
      let a = then_ok (all_settled e (args_of f)) (λ gs. options_given e.world (options_of f) >>= λ _. Ok gs) gs h in
      let b = then_ok (options_given e.world (options_of f)) (λ _. Ok a.0) gs a.2 in
      subst HasOne (same_ok a.0 gs b.2) (all_some (args_of f) a.0 (arms_are f is) a.1)

module _ (e : Held) (t : Told) where
  ranges_some : (g : Form) (gs : List Form) (os : List Opening) → range_openings e t (g ∷ gs) ≡ Ok os → HasOne os
  ranges_some g gs os h =
      let o = then_ok (range_opening e t g) (λ o. range_openings e t gs >>= λ rest. Ok (o ∷ rest)) os h in
      let rest = then_ok (range_openings e t gs) (λ rest. Ok (o.0 ∷ rest)) os o.2 in
      subst HasOne (same_ok (o.0 ∷ rest.0) os rest.2) tt

  openings_some : (s : Shape) (gs : List Form) (os : List Opening) → HasOne gs → openings e t s gs ≡ Ok os → HasOne os
  openings_some s [] os some h = absurd some
  openings_some shapes.Point (g ∷ []) os some h = subst HasOne (same_ok (opening e t g None kinds.Point ∷ []) os h) tt
  openings_some shapes.Point (g ∷ f ∷ gs) os some h = ranges_some g (f ∷ gs) os h
  openings_some shapes.Limit (g ∷ []) os some h =
      let o = then_ok (limit_opening e t g) (λ o. Ok (o ∷ [])) os h in
      subst HasOne (same_ok (o.0 ∷ []) os o.2) tt
  openings_some shapes.Limit (g ∷ f ∷ gs) os some h = ranges_some g (f ∷ gs) os h
  openings_some shapes.Range (g ∷ gs) os some h = ranges_some g gs os h
  openings_some shapes.United (g ∷ gs) os some h = ranges_some g gs os h

-- ---- the feeds of a request
module _ (e : Held) (ms : NamedForms) where
  abbrev opened : Shape → List Form → Told → Answer Feeding
  opened s gs t = openings e t s gs >>= λ os. Ok (record { openings = os; note = note_of s; told = t })

  abbrev options_told : Shape → List Form → Options → Answer Feeding
  options_told s gs os = told ms os >>= opened s gs

  abbrev all_followed : Shape → List Form → Answer Feeding
  all_followed s gs = options_given e.world ms >>= options_told s gs

  abbrev shaped : Form → Shape → Answer Feeding
  shaped f s = followed e s f >>= all_followed s

  is_there : (x : Option Shape) (s : Shape) → shape_there x ≡ Ok s → x ≡ Some s
  is_there None s h = absurd (cc (h))
  is_there (Some r) s h = ap (λ y. Some y) (same_ok r s h)

  feed_some : (f : Form) (x : Feeding) → (shape_there (shape f) >>= shaped f) ≡ Ok x → HasOne x.openings
  feed_some f x h =
      let s = then_ok (shape_there (shape f)) (shaped f) x h in
      let gs = then_ok (followed e s.0 f) (all_followed s.0) x s.2 in
      let os = then_ok (options_given e.world ms) (options_told s.0 gs.0) x gs.2 in
      let t = then_ok (told ms os.0) (opened s.0 gs.0) x os.2 in
      let o = then_ok (openings e t.0 s.0 gs.0) (λ os. Ok (record { openings = os; note = note_of s.0; told = t.0 })) x t.2 in
      let same = same_ok (record { openings = o.0; note = note_of s.0; told = t.0 }) x o.2 in
      subst (λ (y : Feeding). HasOne y.openings) same (openings_some e t.0 s.0 gs.0 o.0 (followed_some e s.0 f gs.0 (is_there (shape f) s.0 s.1) gs.1) o.1)

pub feeding_some : (e : Held) (fs : Forms) (ms : NamedForms) (x : Feeding) → feeding e fs ms ≡ Ok x → HasOne x.openings
feeding_some e (form f fs) ms x h = feed_some e ms f x h
feeding_some e no_forms ms x h = absurd (cc (h))
