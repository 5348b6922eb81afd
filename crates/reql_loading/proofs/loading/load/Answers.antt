use Rattle.std.proofs.Common.{sym, subst}
use Rattle.reql_core.specs.Core.{state_of}
use Rattle.reql_open_feed.specs.Open.{held_in}
use Rattle.reql_outside.specs.declared.memory.MemRecord.{MemRecord}
use Rattle.reql_serve.specs.Many.{AtEnd}
use Rattle.reql_serve.proofs.Crew.{end_of}
use Rattle.reql_run.proofs.Posts.{map_twice}
use Rattle.reql_loading.specs.Loading.{Prints}
use Rattle.reql_loading.proofs.Halls.{has_slot}
use Rattle.reql_loading.proofs.loading.load.Goals as goal

pub print-requires : goal.print-requires
print-requires g c = has_slot (state_of held_in) (λ n. n) _ c.in-Ok.many.hall c.in-Ok.ensures

pub returns-in-Ok-clause-loads : goal.returns-in-Ok-clause-loads
returns-in-Ok-clause-loads g c = record {
  seed = c.in-Load.seed;
  size = c.in-Load.size;
  asks = c.in-Load.ensures;
  served = c.in-Ok.ensures;
  prints = subst (λ ms. Prints (state_of held_in) (λ c. c.tail) c.in-Load.seed c.in-Load.size ms c.in-Ok.many.hall (g.K.Sink.told c.args.out.now) (g.K.Sink.told c.print.new.out) c.print.result)
      (sym (map_twice (end_of (λ d. d.told)) (λ (w : AtEnd MemRecord). w.ended) c.in-Ok.many.workers.items)) c.print.ensures;
}
