-- One step of a rule.
use Rattle.std.proofs.Common.{◌≡◌, Result, Ok}
use Rattle.reql_datum.specs.Answer.{Answer, ◌>>=◌}
use Rattle.reql_datum.specs.Outcome.{Gives}
use Rattle.reql_datum.specs.declared.fault.Fault.{Fault}

pub then_gives : {X Y A : Type 0} (view : X → Y) (r : Result X Fault) (a : Answer A) (x : A) (k : A → Answer Y) → a ≡ Ok x → Gives view r (k x) → Gives view r (a >>= k)
then_gives view r a x k e h = rw e h
