-- What a walk for the first fault finds, unless memory ran out.
use Rattle.std.specs.Prelude.{◌≡◌, ℕ, List, Option, Some, None, Result, Ok, Err}
use Rattle.reql_faults.specs.Faults.{Around, first_fault}
use Rattle.reql_faults.specs.declared.fault.CompileFault.{CompileFault}
use Rattle.reql_faults.specs.declared.fault.CompileFault.TheVariants as fault
use Rattle.reql_faults.specs.declared.scope.Scope.{Scope}

-- what the walk holds, in the definition's words
abbrev pub around : Scope → List ℕ → Around
around s ids = record { place = s.place; ids = ids; row = s.row }

-- there is none, or it is the first
abbrev pub Is : {T : Type 0} → Result T CompileFault → Option CompileFault → Type 0
Is (Ok x) first = first ≡ None
Is (Err fault.Memory) first = Unit {0}
Is (Err (fault.Unbound n)) first = first ≡ Some (fault.Unbound n)
Is (Err fault.WriteNested) first = first ≡ Some fault.WriteNested
Is (Err fault.TableNotLiteral) first = first ≡ Some fault.TableNotLiteral
Is (Err fault.FeedShape) first = first ≡ Some fault.FeedShape
Is (Err fault.OffsetsNeedLimit) first = first ≡ Some fault.OffsetsNeedLimit

abbrev pub Finds : {T : Type 0} → Result T CompileFault → List CompileFault → Type 0
Finds r es = Is r (first_fault es)
