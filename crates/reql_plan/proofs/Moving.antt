-- The moves of a course.
use Rattle.std.proofs.Common.{◌≡◌, refl, List, Bool, true, false, Result, Ok, Err}
use Rattle.reql_term.specs.Views.{Document, Entry}
use Rattle.reql_rules.specs.Lists.{Bytes}
use Rattle.reql_table_spec.specs.Indexes.{Indexes}
use Rattle.reql_plan_spec.specs.Request.{Request}
use Rattle.reql_plan.specs.Moved.{First, Goes, first_left, left_in}
use Rattle.reql_plan_steps.specs.declared.moves.Move.{Move}
use Rattle.reql_plan.specs.declared.course.Waiting.{Waiting}

module _ {V E : Type 0} (documents : V → List Document) (indexes : V → Indexes) (entries : V → Bytes → List Entry) where
  pub first_goes : (r : Result Move E) (s : Waiting V) (fresh quiet : Bool) → First r fresh quiet → Goes documents indexes entries r s quiet (first_left fresh (λ h. left_in documents indexes entries s h))
  first_goes (Ok mv) s true quiet is = (is, λ h. refl)
  first_goes (Ok mv) s false quiet is = is
  first_goes (Err e) s fresh quiet is = tt

  pub goes_as : (r : Result Move E) (s : Waiting V) (quiet : Bool) (x y : Request) → x ≡ y → Goes documents indexes entries r s quiet y → Goes documents indexes entries r s quiet x
  goes_as r s quiet x y is goes = rw is goes
