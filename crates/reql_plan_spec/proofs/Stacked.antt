-- That what a feed follows means what its own term does.
use Rattle.std.proofs.Common.{◌≡◌, ℕ, List, [], ◌∷◌, Bool, true, false, Option, Some, None, Ok, refl, sym, subst, ◌∙◌, inl, inr}
use Rattle.std.specs.Prelude.{codes}
use Rattle.reql_datum.specs.Answer.{◌>>=◌}
use Rattle.reql_term.specs.Form.{Form, literal, several, keyed, variable, implicit, function, slot, operation, Forms, no_forms, form, NamedForms}
use Rattle.reql_term.specs.Table.{way_of}
use Rattle.reql_term.specs.declared.op.Op.{Op}
use Rattle.reql_term.specs.declared.op.Op.TheVariants as op
use Rattle.reql_faults.specs.Places.{first, option}
use Rattle.reql_faults.specs.Shapes.{part_of, is_table_part, is_table, is_table_at, range_by, is_range, is_first_range, source_by, is_source, order_name, order_over, order_by, is_order, is_order_at, are_ranges, are_arms, shape_by, shape}
use Rattle.reql_faults.specs.declared.shape.Shape.{Shape}
use Rattle.reql_faults.specs.declared.shape.Shape.TheVariants as shapes
use Rattle.reql_value_spec.specs.World.{World}
use Rattle.reql_table_spec.specs.Followed as law
use Rattle.reql_table_spec.proofs.Closed.{then_ok}
use Rattle.reql_table_spec.proofs.Reading.{both}
use Rattle.reql_plan_spec.specs.declared.parts.Opening.{Opening}
use Rattle.reql_plan_spec.specs.Feeding.{Told, Feeding, row_test, shape_there}
use Rattle.reql_plan_spec.specs.Follows.{is_planned, are_planned}
use Rattle.reql_plan_spec.specs.Held.{Held}
use Rattle.reql_plan_spec.specs.Settling.{is_whole, is_stack, first_is_stack, MeanTheSame, FeedsMeanTheSame}
use Rattle.reql_plan_spec.specs.Reads.{args_of}
use Rattle.reql_plan_spec.specs.Theirs.{terms_as, terms_of, AreTheirOwn}
use Rattle.reql_plan_spec.proofs.Follows.{planned_fits, both_are, shape_is}
use Rattle.reql_plan_spec.proofs.Opened.{range_is, arms_are, args_planned, shaped, shape_is_there}
use Rattle.reql_plan_spec.proofs.Settling.{settled_means_the_same}
use Rattle.reql_plan_spec.proofs.Theirs.{on_first, source_on, ordered_over, point_on, limit_on, openings_are_theirs}

-- ---- each operator of a feed's term evaluates all its arguments
range_whole : (o : Op) (on_table on_range : Bool) → is_table_part (part_of o) ≡ false → range_by (part_of o) on_table on_range ≡ true → is_whole (way_of o) ≡ true
range_whole op.Table t r k h = absurd (cc (k))
range_whole op.Between t r k h = refl
range_whole op.GetAll t r k h = refl
range_whole op.Filter t r k h = refl
range_whole op.Map t r k h = refl
range_whole op.Pluck t r k h = refl
range_whole op.Without t r k h = refl
range_whole op.Merge t r k h = refl
range_whole op.HasFields t r k h = refl
range_whole op.WithFields t r k h = refl
range_whole o t r k h = absurd (cc (h))

source_whole : (o : Op) (name : Option (List ℕ)) (f index : Option Form) → is_table_part (part_of o) ≡ false → source_by (part_of o) name f index ≡ true → is_whole (way_of o) ≡ true
source_whole op.Table name f index k h = absurd (cc (k))
source_whole op.Between name f index k h = refl
source_whole o name f index k h = absurd (cc (h))

order_whole : (o : Op) (fs : Forms) (ms : NamedForms) → order_by (part_of o) fs ms ≡ true → is_whole (way_of o) ≡ true
order_whole op.OrderBy fs ms h = refl
order_whole o fs ms h = absurd (cc (h))

table_stack : (f : Form) → is_table f ≡ true → is_planned f ≡ true → is_stack f ≡ true
table_stack (slot n) t p = refl
table_stack (operation o fs ms) t p = absurd (let e : true ≡ false = sym t ∙ (planned_fits o fs ms p).looked_up in cc)
table_stack (literal d) t p = refl
table_stack (several fs) t p = refl
table_stack (keyed ms) t p = refl
table_stack (variable id) t p = refl
table_stack implicit t p = refl
table_stack (function ids body) t p = refl

first_table_stack : (fs : Forms) → is_table_at (first fs) ≡ true → are_planned fs ≡ true → first_is_stack fs ≡ true
first_table_stack no_forms t p = refl
first_table_stack (form f fs) t p = table_stack f t (both (is_planned f) (are_planned fs) p).0

mutual
  range_stack : (f : Form) → is_range f ≡ true → is_planned f ≡ true → is_stack f ≡ true
  range_stack (operation o fs ms) r p =
      let q = planned_fits o fs ms p in
      both_are (is_whole (way_of o)) (first_is_stack fs) (range_whole o (is_table_at (first fs)) (is_first_range fs) q.looked_up r)
      (elim (on_first o (is_table_at (first fs)) (is_first_range fs) q.looked_up r) [
        | inl t ↦ first_table_stack fs t q.arguments
        | inr s ↦ first_range_stack fs s q.arguments
      ])
  range_stack (slot n) r p = refl
  range_stack (literal d) r p = refl
  range_stack (several fs) r p = refl
  range_stack (keyed ms) r p = refl
  range_stack (variable id) r p = refl
  range_stack implicit r p = refl
  range_stack (function ids body) r p = refl

  first_range_stack : (fs : Forms) → is_first_range fs ≡ true → are_planned fs ≡ true → first_is_stack fs ≡ true
  first_range_stack no_forms r p = refl
  first_range_stack (form f fs) r p = range_stack f r (both (is_planned f) (are_planned fs) p).0

source_stack : (name : Option (List ℕ)) (f : Form) → is_source name f ≡ true → is_planned f ≡ true → is_stack f ≡ true
source_stack name (operation o fs ms) s p =
    let q = planned_fits o fs ms p in
    both_are (is_whole (way_of o)) (first_is_stack fs) (source_whole o name (first fs) (option (codes "index") ms) q.looked_up s)
    (first_table_stack fs (source_on o name (first fs) (option (codes "index") ms) q.looked_up s) q.arguments)
source_stack name (slot n) s p = refl
source_stack name (literal d) s p = refl
source_stack name (several fs) s p = refl
source_stack name (keyed ms) s p = refl
source_stack name (variable id) s p = refl
source_stack name implicit s p = refl
source_stack name (function ids body) s p = refl

over_stack : (index : Option Form) (fs : Forms) → order_over index fs ≡ true → are_planned fs ≡ true → first_is_stack fs ≡ true
over_stack None fs o p = absurd (cc (o))
over_stack (Some index) no_forms o p = refl
over_stack (Some index) (form f no_forms) o p = source_stack (order_name index) f o (both (is_planned f) true p).0
over_stack (Some index) (form f (form g gs)) o p = absurd (cc (o))

order_stack : (f : Form) → is_order f ≡ true → is_planned f ≡ true → is_stack f ≡ true
order_stack (operation o fs ms) h p = both_are (is_whole (way_of o)) (first_is_stack fs) (order_whole o fs ms h)
    (over_stack (option (codes "index") ms) fs (ordered_over o fs ms h) (planned_fits o fs ms p).arguments)
order_stack (slot n) h p = refl
order_stack (literal d) h p = refl
order_stack (several fs) h p = refl
order_stack (keyed ms) h p = refl
order_stack (variable id) h p = refl
order_stack implicit h p = refl
order_stack (function ids body) h p = refl

first_order_stack : (fs : Forms) → is_order_at (first fs) ≡ true → are_planned fs ≡ true → first_is_stack fs ≡ true
first_order_stack no_forms h p = refl
first_order_stack (form f fs) h p = order_stack f h (both (is_planned f) (are_planned fs) p).0

point_whole : (o : Op) (fs : Forms) (range : Bool) → shape_by (part_of o) fs range ≡ Some shapes.Point → is_whole (way_of o) ≡ true
point_whole op.Get fs range s = refl
point_whole op.Limit fs range s = absurd (let e : shapes.Limit ≡ shapes.Point = shape_is shapes.Limit shapes.Point (is_order_at (first fs)) s in cc)
point_whole op.Union fs range s = absurd (let e : shapes.United ≡ shapes.Point = shape_is shapes.United shapes.Point (are_arms fs) s in cc)
point_whole o fs range s = absurd (let e : shapes.Range ≡ shapes.Point = shape_is shapes.Range shapes.Point range s in cc)

limit_whole : (o : Op) (fs : Forms) (range : Bool) → shape_by (part_of o) fs range ≡ Some shapes.Limit → is_whole (way_of o) ≡ true
limit_whole op.Limit fs range s = refl
limit_whole op.Get fs range s = absurd (let e : shapes.Point ≡ shapes.Limit = shape_is shapes.Point shapes.Limit (is_table_at (first fs)) s in cc)
limit_whole op.Union fs range s = absurd (let e : shapes.United ≡ shapes.Limit = shape_is shapes.United shapes.Limit (are_arms fs) s in cc)
limit_whole o fs range s = absurd (let e : shapes.Range ≡ shapes.Limit = shape_is shapes.Range shapes.Limit range s in cc)

point_stack : (f : Form) → shape f ≡ Some shapes.Point → is_planned f ≡ true → is_stack f ≡ true
point_stack (operation o fs ms) s p = both_are (is_whole (way_of o)) (first_is_stack fs) (point_whole o fs (is_range (operation o fs ms)) s)
    (first_table_stack fs (point_on o fs (is_range (operation o fs ms)) s) (planned_fits o fs ms p).arguments)
point_stack (slot n) s p = refl
point_stack (literal d) s p = refl
point_stack (several fs) s p = refl
point_stack (keyed ms) s p = refl
point_stack (variable id) s p = refl
point_stack implicit s p = refl
point_stack (function ids body) s p = refl

limit_stack : (f : Form) → shape f ≡ Some shapes.Limit → is_planned f ≡ true → is_stack f ≡ true
limit_stack (operation o fs ms) s p = both_are (is_whole (way_of o)) (first_is_stack fs) (limit_whole o fs (is_range (operation o fs ms)) s)
    (first_order_stack fs (limit_on o fs (is_range (operation o fs ms)) s) (planned_fits o fs ms p).arguments)
limit_stack (slot n) s p = refl
limit_stack (literal d) s p = refl
limit_stack (several fs) s p = refl
limit_stack (keyed ms) s p = refl
limit_stack (variable id) s p = refl
limit_stack implicit s p = refl
limit_stack (function ids body) s p = refl

-- ---- the terms of a request
abbrev AreStacks : List Form → Type 0
AreStacks [] = Unit {0}
AreStacks (f ∷ fs) = (is_stack f ≡ true) × AreStacks fs

ranges_stack : (fs : Forms) → are_ranges fs ≡ true → are_planned fs ≡ true → AreStacks (law.arguments fs)
ranges_stack no_forms r p = tt
ranges_stack (form f fs) r p =
    let q = both (is_range f) (are_ranges fs) r in
    let s = both (is_planned f) (are_planned fs) p in
    (range_stack f q.0 s.0, ranges_stack fs q.1 s.1)

terms_stack : (s : Shape) (f : Form) → shape f ≡ Some s → is_planned f ≡ true → AreStacks (terms_as (Some s) f)
terms_stack shapes.Point f is p = (point_stack f is p, tt)
terms_stack shapes.Limit f is p = (limit_stack f is p, tt)
terms_stack shapes.Range f is p = (range_stack f (range_is f is) p, tt)
terms_stack shapes.United f is p = ranges_stack (args_of f) (arms_are f is) (args_planned f p)

mean : (e : Held) (v : World) (t : Told) (fs : List Form) (os : List Opening) → AreStacks fs → AreTheirOwn e t fs os → MeanTheSame e.world v fs os
mean e v t [] [] s own = tt
mean e v t (f ∷ fs) (o ∷ os) s own = (λ stand. settled_means_the_same row_test e.world v f o.spec.shape s.0 stand own.0.term, mean e v t fs os s.1 own.1)
mean e v t [] (o ∷ os) s own = absurd own
mean e v t (f ∷ fs) [] s own = absurd own

shape_of_feed : (e : Held) (ms : NamedForms) (f : Form) (x : Feeding) → (shape_there (shape f) >>= shaped e ms f) ≡ Ok x → (s : Shape) × (shape f ≡ Some s)
shape_of_feed e ms f x h =
    let s = then_ok (shape_there (shape f)) (shaped e ms f) x h in
    (s.0, shape_is_there e ms (shape f) s.0 s.1)

pub feeds_mean_the_same : FeedsMeanTheSame
feeds_mean_the_same e v (form f fs) ms x p h =
    let s = shape_of_feed e ms f x h in
    let stacks : AreStacks (terms_of (form f fs)) = subst (λ y. AreStacks (terms_as y f)) (sym s.1) (terms_stack s.0 f s.1 (both (is_planned f) (are_planned fs) p).0) in
    mean e v x.told (terms_of (form f fs)) x.openings stacks (openings_are_theirs e (form f fs) ms x p h).openings
feeds_mean_the_same e v no_forms ms x p h = absurd (cc (h))
