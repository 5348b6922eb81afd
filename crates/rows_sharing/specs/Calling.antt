-- A machine that lists the numbers of those who called it.
use Rattle.std.specs.Prelude.{ℕ, List, [], ◌∷◌, ◌++◌, length, true}
use Rattle.reql_shared.specs.Machine.{Machine}

abbrev pub calling : Machine (List ℕ) (Unit {0}) ℕ (Unit {0}) (List ℕ)
calling = record {
  reply = λ s by call. length s;
  recorded = λ reply. true;
  after = λ s by call. s ++ by ∷ [];
  answer = λ s question. s;
  place = length;
}
