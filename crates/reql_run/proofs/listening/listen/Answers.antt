use Rattle.std.proofs.Common.{◌∙◌, ap, sym, map, length}
use Rattle.reql_serve.specs.Many.{AtEnd}
use Rattle.reql_serve.proofs.Crew.{end_of}
use Rattle.reql_words.specs.Words.{named, Listen}
use Rattle.reql_run.specs.Listening.{status_of_workers}
use Rattle.reql_run.proofs.Posts.{map_twice, unheard}
use Rattle.reql_run.proofs.listening.listen.Goals as goal

pub returns-in-Ok-clause-listens : goal.returns-in-Ok-clause-listens
returns-in-Ok-clause-listens g c = record {
  port = c.in-Listen.port;
  workers = c.in-Listen.workers;
  many = c.in-Listen.clients;
  sessions = c.in-Listen.sessions;
  key = c.in-Listen.key.now;
  password = c.in-Listen.password.now;
  quiet = c.in-Listen.quiet;
  tables = map named c.as_slice.result.now;
  asks = c.in-Listen.ensures ∙ ap (λ l. Listen c.in-Listen.port c.in-Listen.workers c.in-Listen.clients c.in-Listen.sessions c.in-Listen.key.now c.in-Listen.password.now c.in-Listen.quiet (map named l)) (sym c.as_slice.ensures.value);
  came = c.in-Ok.ensures.came;
  ends = c.status_of_workers.ensures ∙ ap (λ ws. status_of_workers (map (λ w. w.state) ws)) c.deref.ensures.value
      ∙ ap status_of_workers (sym (map_twice (end_of g.N.Door.Door.told) (λ (w : AtEnd g.row.N-Door-Link-Record.Denot). w.state) c.in-Ok.many.workers.items));
}

pub returns-in-Err-clause-listens : goal.returns-in-Err-clause-listens
returns-in-Err-clause-listens g c =
    unheard _ c.in-Listen.port c.in-Listen.workers c.in-Listen.clients c.in-Listen.sessions c.in-Listen.key.now c.in-Listen.password.now c.in-Listen.quiet (map named c.as_slice.result.now) (g.N.Net.told c.args.net.now) (g.N.Net.told c.serve_port.new.net) c.status_of_fault.result (length c.in-Err.none.posts.items) c.in-Err.none.fault
    (c.in-Listen.ensures ∙ ap (λ l. Listen c.in-Listen.port c.in-Listen.workers c.in-Listen.clients c.in-Listen.sessions c.in-Listen.key.now c.in-Listen.password.now c.in-Listen.quiet (map named l)) (sym c.as_slice.ensures.value)) c.status_of_fault.ensures c.in-Err.ensures.none
