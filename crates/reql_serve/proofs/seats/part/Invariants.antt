use Rattle.std.proofs.Common.{◌≡◌, ◌≤◌, ◌++◌, length}
use Rattle.std.specs.List.{AllZip}
use Rattle.std.specs.Vec.Iter.{into_iter_items, into_iter_len}
use Rattle.reql_serve.specs.Working.{IsThere}
use Rattle.reql_serve.proofs.seats.part.Given as goal

abbrev pub invariant-loop-worker : goal.invariant-loop-worker
invariant-loop-worker g l =
    (l.yielded ++ into_iter_items l.worker-iterator ≡ into_iter_items l.initial.worker-iterator)
    × (length (into_iter_items l.initial.worker-iterator) ≤ l.ends.cap)
    × (length (into_iter_items l.initial.worker-iterator) ≤ l.desks.cap)
    × AllZip (λ w e. (e.door ≡ w.door) × (e.ended ≡ w.ended) × (e.left ≡ w.left) × (e.state ≡ w.state)) l.yielded l.ends.items
    × AllZip (λ w d. IsThere w.bench (λ b. d ≡ b.desk)) l.yielded l.desks.items
    × (into_iter_len l.worker-iterator ≡ length (into_iter_items l.worker-iterator))
