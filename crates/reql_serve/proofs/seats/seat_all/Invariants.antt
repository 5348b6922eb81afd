use Rattle.std.proofs.Common.{◌≡◌, ◌≤◌, [], length}
use Rattle.std.specs.Vec.Iter.{into_iter_items, into_iter_len}
use Rattle.reql_serve.specs.Working.{IsThere}
use Rattle.reql_serve.specs.Many.{share_of}
use Rattle.reql_serve.proofs.Seating.{Seating}
use Rattle.reql_serve.proofs.seats.seat_all.Given as goal

abbrev pub invariant-loop-post : goal.invariant-loop-post
invariant-loop-post g l =
    Seating (λ p w. (w.door ≡ p.door) × IsThere w.bench (λ b. (b.clock ≡ p.clock) × (b.dice ≡ p.dice))) (λ d w. IsThere w.bench (λ b. b.desk ≡ d)) (λ w. w.ended.items ≡ []) (λ w. w.left) (share_of l.sessions l.count)
    (into_iter_items l.initial.post-iterator) (into_iter_items l.initial.free) l.yielded (into_iter_items l.post-iterator) (into_iter_items l.free) l.workers.items
    × (length (into_iter_items l.initial.post-iterator) ≤ l.workers.cap)
    × (into_iter_len l.post-iterator ≡ length (into_iter_items l.post-iterator))
