use Rattle.std.proofs.Common.{◌<◌, ℕ, List, map}
use Rattle.std.specs.Prelude.{slice_index_or}
use Rattle.reql_outside.specs.declared.memory.MemRecord.{MemRecord}
use Rattle.reql_load.specs.Script.{script_of}
use Rattle.reql_loading.specs.Loading.{ServedWhole}
use Rattle.reql_serve.specs.declared.worker.Member.{Member}
use Rattle.reql_loading.proofs.whole.are_whole.Given as goal

abbrev pub invariant-loop-session : goal.invariant-loop-session
invariant-loop-session l = (k : ℕ) (ms : List (Member MemRecord)) → k < l.session → ServedWhole (script_of l.seed l.size k) (slice_index_or (map (λ w. w.ended.items) l.workers) k ms)
