use Rattle.std.specs.Prelude.{◌≡◌, ◌≤◌, length, None, All}
use Rattle.reql_serve.proofs.group.no_sittings.Given as goal

abbrev pub invariant-loop : goal.invariant-loop
invariant-loop g l = (length l.sittings.items ≡ l.counter) × (l.count ≤ l.sittings.cap) × All (λ x. x ≡ None) l.sittings.items
