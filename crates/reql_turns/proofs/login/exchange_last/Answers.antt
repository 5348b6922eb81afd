use Rattle.std.proofs.Common.{[], refl, ap}
use Rattle.reql_login.specs.Turns.{Asked}
use Rattle.reql_session_spec.specs.Logins.{account}
use Rattle.reql_turns.proofs.Greeted.{said_so}
use Rattle.reql_turns.proofs.Exchanging.{waits_on, admits_on, unadmitted, last_away}
use Rattle.reql_turns.proofs.login.exchange_last.Goals as goal

pub pass_over-requires : goal.pass_over-requires
pass_over-requires g c = (rw c.bytes.ensures at (c.in-Admits.ensures (record { name = []; password = [] }))).0

pub returns-in-Waits : goal.returns-in-Waits
returns-in-Waits g c = λ k w.
    let f = rw c.bytes.ensures at (c.in-Waits.ensures (account k)) in
    waits_on k (Asked c.args.proving) _ _ w c.args.ears.now _ c.receive_more.result refl refl (ap (λ z. Asked z) f.0) c.receive_more.ensures.limit f.1 c.receive_more.ensures.receives

pub returns-then-not-send_all : goal.returns-then-not-send_all
returns-then-not-send_all g c = λ k w.
    let f = rw c.bytes.ensures at (c.in-Admits.ensures (account k)) in
    unadmitted k _ _ w c.args.ears.now c.args.ears.now c.in-Admits.message.items c.in-Admits.used c.args.proving f.1 (said_so _ _ _ _ _ _ c.as_slice.ensures.value c.if-not-send_all.true c.send_all.ensures)

pub returns-else-not-send_all : goal.returns-else-not-send_all
returns-else-not-send_all g c = λ k w.
    let f = rw c.bytes.ensures at (c.in-Admits.ensures (account k)) in
    admits_on k _ _ w c.args.ears.now _ c.in-Admits.message.items c.in-Admits.used c.args.proving refl refl c.pass_over.ensures f.1 (said_so _ _ _ _ _ _ c.as_slice.ensures.value c.if-not-send_all.false c.send_all.ensures)

pub returns-in-Refuses : goal.returns-in-Refuses
returns-in-Refuses g c = λ k w.
    let f = rw c.bytes.ensures at (c.in-Refuses.ensures (account k)) in
    last_away k _ _ w c.args.ears.now c.args.ears.now c.args.proving c.in-Refuses.fault c.turn_away.result f c.turn_away.ensures
