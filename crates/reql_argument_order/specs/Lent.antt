-- What an evaluator gives that is lent to an operator.
use Rattle.std.specs.Prelude.{◌≡◌, ℕ, List, length, map, slice_get, Option, Some, None, Result, Err}
use Rattle.std.specs.Borrow.{Bor}
use Rattle.std.specs.Fn.{Shared}
use Rattle.reql_datum.specs.Answer.{Answer}
use Rattle.reql_datum.specs.Outcome.{Gives}
use Rattle.reql_datum.specs.View.{plain}
use Rattle.reql_datum.specs.declared.datum.Datum.{Datum}
use Rattle.reql_datum.specs.declared.fault.Fault.{Fault}
use Rattle.reql_rules.specs.Faults.{misplaced}
use Rattle.reql_value_spec.specs.Meant.{Meant, Given}
use Rattle.reql_value_spec.specs.Sense.{Sense, value}
use Rattle.reql_value_spec.specs.World.{World, Vars}
use Rattle.reql_operand.specs.Seen.{meant, shown}
use Rattle.reql_operand.specs.declared.value.Arg.{Arg}
use Rattle.reql_operand.specs.declared.value.Value.{Value}
use Rattle.reql_term_analysis.specs.Kinds.{given_to}

-- how an argument is taken, by its place
abbrev pub Take : Type 0
Take = ℕ → Sense → World → Vars → Answer Given

-- what a term gives, where there is one
abbrev pub value_of : Option Sense → World → Vars → Answer Meant
value_of None w vars = Err misplaced
value_of (Some s) w vars = value s w vars

abbrev pub value_at : List Sense → ℕ → World → Vars → Answer Meant
value_at ss at w vars = value_of (slice_get ss at) w vars

-- what it gives as an argument
abbrev pub taken_of : Take → ℕ → Option Sense → World → Vars → Answer Given
taken_of take at None w vars = Err misplaced
taken_of take at (Some s) w vars = take at s w vars

abbrev pub taken_at : Take → List Sense → ℕ → World → Vars → Answer Given
taken_at take ss at w vars = taken_of take at (slice_get ss at) w vars

-- f gives the value of each of so many terms, unless memory ran out
pub record Evaluates (w : World) {F : Type 0} (g : Shared F (ℕ × Unit {0}) (Result Value Fault)) (f : F) (count : ℕ) (ss : List Sense) (vars : Vars) : Type 0 where
  pub answers : (at : ℕ) (r : Result Value Fault) → g.post f (at, tt) r → Gives (meant w) r (value_at ss at w vars)
  pub counted : count ≡ length ss

-- f takes each of so many terms as an argument, unless memory ran out
pub record Takes (w : World) {F : Type 0} (g : Shared F (ℕ × Unit {0}) (Result Arg Fault)) (f : F) (take : Take) (count : ℕ) (ss : List Sense) (vars : Vars) : Type 0 where
  pub answers : (at : ℕ) (r : Result Arg Fault) → g.post f (at, tt) r → Gives (shown w) r (taken_at take ss at w vars)
  pub counted : count ≡ length ss

-- f gives what a function gives on values, or what another term gives, unless memory ran out
pub record Tells (w : World) {F : Type 0} (g : Shared F (Bor (List Datum) × Unit {0}) (Result Value Fault)) (f : F) (s : Sense) (vars : Vars) : Type 0 where
  pub answers : (xs : Bor (List Datum)) (r : Result Value Fault) → g.post f (xs, tt) r → Gives (meant w) r (given_to s w vars (map plain xs.now))
