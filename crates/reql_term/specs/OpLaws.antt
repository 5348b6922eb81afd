-- How operators and their numbers meet.
use Rattle.std.specs.Prelude.{◌≡◌, ℕ, ◌≤◌, Some}
use Rattle.reql_term.specs.declared.op.Op.{Op}
use Rattle.reql_term.specs.Table.{op_of, number_of}

-- an operator is the one that its number names
abbrev pub IsNumbered : Type 0
IsNumbered = (op : Op) → op_of (number_of op) ≡ Some op

-- an operator that a number names has that number
abbrev pub IsNamed : Type 0
IsNamed = (n : ℕ) (op : Op) → op_of n ≡ Some op → number_of op ≡ n

-- the numbers of operators are above 0 and below 256
abbrev pub IsByte : Type 0
IsByte = (op : Op) → (1 ≤ number_of op) × (number_of op ≤ 255)
