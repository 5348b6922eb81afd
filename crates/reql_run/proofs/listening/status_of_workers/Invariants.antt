use Rattle.std.proofs.Common.{◌≡◌, drop, map}
use Rattle.reql_run.specs.Listening.{greatest_from, status_of_workers}
use Rattle.reql_run.proofs.listening.status_of_workers.Given as goal

abbrev pub invariant-loop-worker : goal.invariant-loop-worker
invariant-loop-worker g l = status_of_workers (map (λ w. w.state) l.workers) ≡ greatest_from l.status (map (λ w. w.state) (drop l.worker-index l.workers))
