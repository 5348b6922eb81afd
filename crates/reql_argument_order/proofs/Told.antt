-- What DEFAULT tells its second argument, in a slice of its own.
use Rattle.std.proofs.Common.{◌≡◌, List, [], ◌∷◌, Result, refl, ap, sym, ◌∙◌, map}
use Rattle.reql_datum.specs.Outcome.{Gives}
use Rattle.reql_datum.specs.Plain.{Plain}
use Rattle.reql_datum.specs.View.{plain as plain_of}
use Rattle.reql_datum.specs.declared.datum.Datum.{Datum}
use Rattle.reql_datum.specs.declared.fault.Fault.{Fault}
use Rattle.reql_value_spec.specs.Lazy.{told}
use Rattle.reql_value_spec.specs.Sense.{Sense, plain, func, sorter, raiser}
use Rattle.reql_value_spec.specs.World.{World, Vars}
use Rattle.reql_operand.specs.Seen.{meant}
use Rattle.reql_operand.specs.declared.value.Value.{Value}
use Rattle.reql_term_analysis.specs.Kinds.{given_to}

told_is : (s : Sense) (w : World) (vars : Vars) (d : Plain) → told s w vars d ≡ given_to s w vars (d ∷ [])
told_is (plain f) w vars d = refl
told_is (func o f) w vars d = refl
told_is (sorter down s) w vars d = refl
told_is (raiser texted f) w vars d = refl

-- what is told of a value in a slice of its own
pub told_one : (s : Sense) (w : World) (vars : Vars) (xs : List Datum) (x : Datum) (d : Plain) (r : Result Value Fault) → xs ≡ x ∷ [] → plain_of x ≡ d
    → Gives (meant w) r (given_to s w vars (map plain_of xs)) → Gives (meant w) r (told s w vars d)
told_one s w vars xs x d r e f h =
    rw (told_is s w vars d ∙ ap (given_to s w vars) (sym (ap (map plain_of) e ∙ ap (λ (y : Plain). y ∷ []) f))) h
