use Rattle.std.proofs.Common.{refl}
use Rattle.reql_login.specs.Turns.{Greeted}
use Rattle.reql_turns.proofs.Greeted.{said_so}
use Rattle.reql_turns.proofs.Exchanging.{waits_first, asks_on, unasked, turned_away}
use Rattle.reql_turns.proofs.login.exchange_first.Goals as goal

pub returns-in-Waits-clause-exchanged : goal.returns-in-Waits-clause-exchanged
returns-in-Waits-clause-exchanged g c =
    let f = rw c.bytes.ensures at c.in-Waits.ensures.turned in
    waits_first (g.H.Handler.talk c.args.handler.now) _ _ _ _ c.args.ears.now _ c.receive_more.result refl refl c.requires.first c.receive_more.ensures.limit f.0 f.1 c.receive_more.ensures.receives

pub returns-then-not-send_all-clause-exchanged : goal.returns-then-not-send_all-clause-exchanged
returns-then-not-send_all-clause-exchanged g c =
    let f = rw c.bytes.ensures at c.in-Asks.ensures.turned in
    unasked (g.H.Handler.talk c.args.handler.now) _ _ _ _ c.args.ears.now c.args.ears.now c.in-Asks.message.items c.in-Asks.used c.in-Asks.proving f.1 (said_so _ _ _ _ _ _ c.as_slice.ensures.value c.if-not-send_all.true c.send_all.ensures)

pub returns-else-not-send_all-clause-exchanged : goal.returns-else-not-send_all-clause-exchanged
returns-else-not-send_all-clause-exchanged g c =
    let f = rw c.bytes.ensures at c.in-Asks.ensures.turned in
    asks_on (g.H.Handler.talk c.args.handler.now) _ _ _ _ c.args.ears.now _ c.in-Asks.message.items c.in-Asks.used c.in-Asks.proving refl refl refl c.pass_over.ensures f.1 (said_so _ _ _ _ _ _ c.as_slice.ensures.value c.if-not-send_all.false c.send_all.ensures)

pub returns-in-Refuses-clause-exchanged : goal.returns-in-Refuses-clause-exchanged
returns-in-Refuses-clause-exchanged g c =
    let f = rw c.bytes.ensures at c.in-Refuses.ensures.turned in
    turned_away (g.H.Handler.talk c.args.handler.now) Greeted _ _ _ _ c.args.ears.now c.args.ears.now c.in-Refuses.fault c.turn_away.result f c.turn_away.ensures
