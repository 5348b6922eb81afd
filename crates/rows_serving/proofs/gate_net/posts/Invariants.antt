use Rattle.std.proofs.Common.{◌≡◌, ◌≤◌, false, length, vec_capacity}
use Rattle.std.specs.List.{All}
use Rattle.reql_net.specs.Nets.{IsUntouched}
use Rattle.rows_serving.proofs.gate_net.posts.Given as goal

abbrev pub invariant-loop : goal.invariant-loop
invariant-loop l =
    (length l.given.items ≡ l.counter)
    × (l.n ≤ vec_capacity l.given)
    × All (IsUntouched (λ d. record { gave = d.gave; over = d.over; broken = false; faults = 0 })) l.given.items
