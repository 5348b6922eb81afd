use Rattle.std.proofs.Common.{◌≡◌, ℕ, ◌<◌, get_or}
use Rattle.reql_scram.proofs.compare.differences.Given as goal

abbrev pub invariant-loop-i : goal.invariant-loop-i
invariant-loop-i l =
    (l.differences ≡ 0 → (k : ℕ) → k < l.i → get_or l.first k 0 ≡ get_or l.second k 0)
    × (((k : ℕ) → k < l.i → get_or l.first k 0 ≡ get_or l.second k 0) → l.differences ≡ 0)
