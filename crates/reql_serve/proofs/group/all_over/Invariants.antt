use Rattle.std.specs.Prelude.{◌≢◌, ◌<◌, ℕ, slice_index_or}
use Rattle.reql_serve.specs.declared.worker.WorkState.TheVariants as state
use Rattle.reql_serve.proofs.group.all_over.Given as goal

abbrev pub invariant-loop-worker : goal.invariant-loop-worker
invariant-loop-worker g l = (n : ℕ) (w : _) → n < l.worker-index → (slice_index_or l.workers n w).state ≢ state.Ready
