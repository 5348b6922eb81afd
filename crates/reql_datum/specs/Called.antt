-- What a called function means: a closure that is lent, of one document or of two.
use Rattle.std.specs.Prelude.{Result}
use Rattle.std.specs.Borrow.{Bor}
use Rattle.std.specs.Fn.{Shared}
use Rattle.reql_datum.specs.Answer.{Answer}
use Rattle.reql_datum.specs.Outcome.{Gives}
use Rattle.reql_datum.specs.Plain.{Plain}
use Rattle.reql_datum.specs.View.{plain}
use Rattle.reql_datum.specs.declared.datum.Datum.{Datum}
use Rattle.reql_datum.specs.declared.fault.Fault.{Fault}

-- each answer of f is what m gives, unless memory ran out
pub record Means {F : Type 0} (g : Shared F (Bor Datum × Unit {0}) (Result Datum Fault)) (f : F) (m : Plain → Answer Plain) : Type 0 where
  pub answers : (x : Bor Datum) (r : Result Datum Fault) → g.post f (x, tt) r → Gives plain r (m (plain x.now))

-- the same of a function of two
pub record MeansTwo {F : Type 0} (g : Shared F (Bor Datum × (Bor Datum × Unit {0})) (Result Datum Fault)) (f : F) (m : Plain → Plain → Answer Plain) : Type 0 where
  pub answers : (x y : Bor Datum) (r : Result Datum Fault) → g.post f (x, (y, tt)) r → Gives plain r (m (plain x.now) (plain y.now))
