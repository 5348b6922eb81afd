-- What a called function of a key means: the documents that have it.
use Rattle.std.specs.Prelude.{List, Result, Ok}
use Rattle.std.specs.Borrow.{Bor}
use Rattle.std.specs.Fn.{Shared}
use Rattle.reql_datum.specs.Outcome.{Gives}
use Rattle.reql_datum.specs.Plain.{Plain}
use Rattle.reql_datum.specs.View.{plain}
use Rattle.reql_datum.specs.declared.datum.Datum.{Datum}
use Rattle.reql_datum.specs.declared.fault.Fault.{Fault}

-- each answer of f is the documents that h gives, unless memory ran out
pub record MeansRows {F : Type 0} (g : Shared F (Bor Datum × Unit {0}) (Result (List Plain) Fault)) (f : F) (h : Plain → List Plain) : Type 0 where
  pub answers : (x : Bor Datum) (r : Result (List Plain) Fault) → g.post f (x, tt) r → Gives (λ items. items) r (Ok (h (plain x.now)))
