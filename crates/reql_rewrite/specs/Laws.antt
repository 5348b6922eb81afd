-- What follows of every rule.
use Rattle.std.specs.Prelude.{◌≡◌, Some, None, Ok, Err}
use Rattle.reql_datum.specs.Answer.{Reason}
use Rattle.reql_term.specs.Form.{Form}
use Rattle.reql_rewrite.specs.Rewrite.{Saying, rewritten}

-- a rule that says nothing of any term leaves each as it is
abbrev pub KeepsAll : Type 0
KeepsAll = (rule : Saying) → ((f : Form) → rule f ≡ Ok None) → (f : Form) → rewritten rule f ≡ Ok f

-- what the rule says of a term becomes of it
abbrev pub StopsAtRoot : Type 0
StopsAtRoot = (rule : Saying) (f g : Form) → rule f ≡ Ok (Some g) → rewritten rule f ≡ Ok g

-- and its fault is the fault
abbrev pub Fails : Type 0
Fails = (rule : Saying) (f : Form) (e : Reason) → rule f ≡ Err e → rewritten rule f ≡ Err e
