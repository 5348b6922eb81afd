-- A machine that keeps each number that it is given, with who gave it.
use Rattle.std.specs.Prelude.{ℕ, List, [], ◌∷◌, ◌++◌, length, true}
use Rattle.reql_shared.specs.Machine.{Machine}

abbrev pub logging : Machine (List (ℕ × ℕ)) ℕ ℕ (Unit {0}) ℕ
logging = record {
  reply = λ s by number. length s;
  recorded = λ reply. true;
  after = λ s by number. s ++ (by, number) ∷ [];
  answer = λ s question. length s;
  place = length;
}
