-- The arguments of a FOR_EACH.
use Rattle.std.proofs.Common.{◌≡◌, ℕ, List, [], ◌∷◌, slice_get, Option, Some, None, refl, ap, sym, Result}
use Rattle.reql_term.specs.Form.{Form, Forms, no_forms, form, forms_of}
use Rattle.reql_term.specs.Views.{Document, Entry}
use Rattle.reql_faults.specs.Places.{first, second}
use Rattle.reql_rules.specs.Lists.{Bytes}
use Rattle.reql_table_spec.specs.Followed.{arguments as forms_in}
use Rattle.reql_table_spec.specs.Indexes.{Indexes}
use Rattle.reql_plan_spec.specs.Request.{Request, from}
use Rattle.reql_plan_spec.specs.Settled.{there}
use Rattle.reql_plan_state.specs.Turn.{Turns, lost_request}
use Rattle.reql_plan_state.specs.declared.stage.Turn.{Turn}

module _ {V E : Type 0} (documents : V → List Document) (indexes : V → Indexes) (entries : V → Bytes → List Entry) where
  pub there_goes : (r : Result (Turn V) E) (o : Option Form) (f : Form) (on : Form → Request) → Some f ≡ o → Turns documents indexes entries r (on f) → Turns documents indexes entries r (from (there o) on)
  there_goes r o f on is goes = rw (sym is) goes

pub there_lost : (o : Option Form) (on : Form → Request) → None ≡ o → from (there o) on ≡ lost_request
there_lost None on is = refl
there_lost (Some f) on is = absurd (let e : None ≡ Some f = is in cc)

pub ruleset arguments = (there_goes, there_lost)

pub first_at : (fs : List Form) → slice_get fs 0 ≡ first (forms_of fs)
first_at [] = refl
first_at (f ∷ fs) = refl

pub second_at : (fs : List Form) → slice_get fs 1 ≡ second (forms_of fs)
second_at [] = refl
second_at (f ∷ []) = refl
second_at (f ∷ g ∷ fs) = refl

pub forms_back : (fs : List Form) → forms_in (forms_of fs) ≡ fs
forms_back [] = refl
forms_back (f ∷ fs) = ap (λ (gs : List Form). f ∷ gs) (forms_back fs)

pub ruleset places = (first_at, second_at, forms_back)
