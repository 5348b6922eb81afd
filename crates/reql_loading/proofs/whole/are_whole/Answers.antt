use Rattle.std.proofs.Common.{ℕ, List, sym, subst, ◌∙◌}
use Rattle.reql_net.specs.declared.memory.MemDoor.{MemDoor}
use Rattle.reql_net.specs.declared.watch.Rounds.{Rounds}
use Rattle.reql_outside.specs.declared.memory.MemLink.{MemLink}
use Rattle.reql_outside.specs.declared.memory.MemRecord.{MemRecord}
use Rattle.reql_load.specs.Script.{script_of}
use Rattle.reql_loading.specs.Loading.{ServedWhole}
use Rattle.reql_serve.specs.declared.many.Left.{Left}
use Rattle.reql_serve.specs.declared.worker.Member.{Member}
use Rattle.reql_loading.proofs.Ones.{one_more}
use Rattle.reql_loading.proofs.whole.are_whole.Goals as goal

pub loop-session-preserved : goal.loop-session-preserved
loop-session-preserved c =
    one_more (λ (w : Left MemDoor MemLink Rounds MemRecord). w.ended.items) (λ (k : ℕ) (ms : List (Member MemRecord)). ServedWhole (script_of c.args.seed c.args.size k) ms) c.args.workers.now c.loop-session.session c.in-Some.worker.now
    c.in-Some.ensures.lookup.3.0 (sym (c.in-Some.ensures.lookup.3.1 c.in-Some.worker.now)) c.loop-session.invariant
    (subst (ServedWhole (script_of c.args.seed c.args.size c.loop-session.session)) c.deref.ensures.value
    (subst (λ s. ServedWhole s c.deref.result.now) (c.deref-in-loop-session.ensures.value ∙ c.in_ok-sent.ensures) (c.served_whole.ensures c.if-not-served_whole.false)))
