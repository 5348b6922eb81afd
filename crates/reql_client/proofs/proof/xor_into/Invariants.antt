use Rattle.std.proofs.Common.{◌≡◌, ℕ, ◌<◌, ◌≤◌, get_or, bit_xor}
use Rattle.reql_client.proofs.proof.xor_into.Given as goal

abbrev pub invariant-loop-i : goal.invariant-loop-i
invariant-loop-i l =
    ((k : ℕ) → k < l.i → get_or l.all k 0 ≡ bit_xor (get_or l.initial.all k 0) (get_or l.other k 0))
    × ((k : ℕ) → l.i ≤ k → get_or l.all k 0 ≡ get_or l.initial.all k 0)
