use Rattle.std.proofs.Common.{subst}
use Rattle.reql_turns.specs.Ears.{Exchanges, gate_of}
use Rattle.reql_turns.proofs.login.exchange.Goals as goal

pub returns-in-Some-clause-exchanged : goal.returns-in-Some-clause-exchanged
returns-in-Some-clause-exchanged g c =
    let k = g.H.Handler.talk c.args.handler.now in
    let w = g.H.Handler.work c.args.handler.now in
    subst (λ z. Exchanges k (gate_of z) (g.L.Link.tape c.args.link.now) w c.args.ears.now (g.L.Link.tape c.exchange_last.new.link) w c.exchange_last.new.ears c.exchange_last.result) c.in-Some.ensures.value (c.exchange_last.ensures k w)
