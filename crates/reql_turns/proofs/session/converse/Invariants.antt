use Rattle.std.proofs.Common.{◌≡◌}
use Rattle.reql_session_api.specs.World.{AtWork}
use Rattle.reql_turns.specs.Running.{IsOn}
use Rattle.reql_turns.proofs.session.converse.Given as goal

abbrev pub invariant-loop : goal.invariant-loop
invariant-loop g l = (g.H.Handler.talk l.handler ≡ g.H.Handler.talk l.initial.handler)
    × g.H.Handler.ready l.handler
    × (g.H.Handler.hall l.handler ≡ g.H.Handler.hall l.initial.handler)
    × (l.running.turns ≡ l.counter)
    × ((start : AtWork) → IsOn (g.H.Handler.talk l.initial.handler) g.L.Link.tape start (g.H.Handler.work l.initial.handler) l.initial.running → IsOn (g.H.Handler.talk l.initial.handler) g.L.Link.tape start (g.H.Handler.work l.handler) l.running)
