-- What the functions among the arguments mean, by their places.
use Rattle.std.specs.Prelude.{ℕ, List, Result, map}
use Rattle.std.specs.Borrow.{Bor}
use Rattle.std.specs.Fn.{Shared}
use Rattle.reql_datum.specs.Outcome.{Gives}
use Rattle.reql_datum.specs.View.{plain}
use Rattle.reql_datum.specs.declared.datum.Datum.{Datum}
use Rattle.reql_datum.specs.declared.fault.Fault.{Fault}
use Rattle.reql_value_spec.specs.Meant.{Calls}
use Rattle.reql_value_spec.specs.World.{World}
use Rattle.reql_operand.specs.Seen.{meant}
use Rattle.reql_operand.specs.declared.value.Value.{Value}

-- each answer of the function at a place is what calls gives there, unless memory ran out
pub record Answers (w : World) {F : Type 0} (g : Shared F (ℕ × (Bor (List Datum) × Unit {0})) (Result Value Fault)) (f : F) (calls : Calls) : Type 0 where
  pub answers : (at : ℕ) (xs : Bor (List Datum)) (r : Result Value Fault) → g.post f (at, (xs, tt)) r → Gives (meant w) r (calls at (map plain xs.now))
