-- A machine that adds numbers.
use Rattle.std.specs.Prelude.{ℕ, ◌+◌, ◌-◌, ◌%◌, ◌^◌, ◌==◌, Option, Some, None, if◌then◌else◌, is_some}
use Rattle.reql_shared.specs.Machine.{Machine}

-- the sum, and how many numbers were added
abbrev pub State : Type 0
State = ℕ × ℕ

abbrev pub sum_after : State → ℕ → ℕ
sum_after s x = (s.0 + x) % 2 ^ 64

-- A full machine answers nothing and adds nothing.
abbrev pub adding : Machine State ℕ (Option ℕ) (Unit {0}) ℕ
adding = record {
  reply = λ s by x. if s.1 == 2 ^ 64 - 1 then None else Some (sum_after s x);
  recorded = is_some;
  after = λ s by x. (sum_after s x, s.1 + 1);
  answer = λ s question. s.0;
  place = λ s. s.1;
}
