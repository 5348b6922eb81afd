-- What a function of values means.
use Rattle.std.specs.Prelude.{Result}
use Rattle.std.specs.Fn.{Shared}
use Rattle.reql_datum.specs.Answer.{Answer}
use Rattle.reql_datum.specs.Outcome.{Gives}
use Rattle.reql_datum.specs.declared.fault.Fault.{Fault}
use Rattle.reql_value_spec.specs.Meant.{Meant}
use Rattle.reql_value_spec.specs.World.{World}
use Rattle.reql_operand.specs.Seen.{meant}
use Rattle.reql_operand.specs.declared.value.Value.{Value}

-- each answer of f is what m gives, unless memory ran out
pub record MeansValue (w : World) {F : Type 0} (g : Shared F (Value × Unit {0}) (Result Value Fault)) (f : F) (m : Meant → Answer Meant) : Type 0 where
  pub answers : (x : Value) (r : Result Value Fault) → g.post f (x, tt) r → Gives (meant w) r (m (meant w x))
