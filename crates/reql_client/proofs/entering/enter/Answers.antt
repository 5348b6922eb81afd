use Rattle.std.proofs.Common.{rules, ◌≡◌, ◌<◌, take, arith, sym, subst}
use Rattle.reql_client.specs.Login.{Begun, Enters, Fails, Lost, Refused, Steps, Waits, begun}
use Rattle.reql_client.specs.Program.{stage_of}
use Rattle.reql_client.proofs.Logged.{fewer_left, heard_at, idle_at, left, said_at, stands_at, then_at, unsaid_at, worn_at}
use Rattle.reql_client.proofs.entering.enter.Goals as goal

pub loop-bytes-init : goal.loop-bytes-init
loop-bytes-init g c = record {
  steps = subst (λ h. Steps c.args.entrant.password.now c.args.entrant.nonce.now (g.L.Link.tape c.args.link.now) 0 (g.L.Link.tape c.args.link.now) Begun h) (sym c.new-held.ensures.items) begun;
  within = omega arith;
}

pub returns-then-not-send_all : goal.returns-then-not-send_all
unfolding Fails
returns-then-not-send_all g c =
    unsaid_at _ _ _ _ _ _ c.loop-bytes.calls _ _ c.loop-bytes.held.items _ c.in-Says.bytes.items _ c.in-Says.rest.items c.loop-bytes.invariant.steps c.loop-bytes.invariant.within
    c.deref.ensures.value c.in-Says.ensures c.deref-in-Says.ensures.value c.if-not-send_all.ensures

pub loop-bytes-smaller-in-Says : goal.loop-bytes-smaller-in-Says
loop-bytes-smaller-in-Says g c =
    let fewer : left (stage_of c.in-Says.next) < left (stage_of c.loop-bytes.stage) = fewer_left _ _ _ _ _ c.in-Says.bytes.items c.in-Says.rest.items c.in-Says.ensures in
    omega (arith, fewer)

pub loop-bytes-preserved-in-Says : goal.loop-bytes-preserved-in-Says
loop-bytes-preserved-in-Says g c = record {
  steps = said_at _ _ _ _ _ c.loop-bytes.calls _ _ c.loop-bytes.held.items _ c.in-Says.bytes.items _ c.in-Says.rest.items c.loop-bytes.invariant.steps c.deref.ensures.value c.in-Says.ensures
      c.deref-in-Says.ensures.value c.if-not-send_all.ensures;
  within = c.loop-bytes.invariant.within;
}

pub returns-in-Enters : goal.returns-in-Enters
returns-in-Enters g c = stands_at _ _ _ _ _ c.loop-bytes.calls _ c.loop-bytes.held.items _ (Enters c.in-Enters.rest.items) c.loop-bytes.invariant.steps c.loop-bytes.invariant.within c.deref.ensures.value c.in-Enters.ensures

pub returns-in-Refused : goal.returns-in-Refused
unfolding Fails
returns-in-Refused g c = stands_at _ _ _ _ _ c.loop-bytes.calls _ c.loop-bytes.held.items _ (Refused c.in-Refused.why) c.loop-bytes.invariant.steps c.loop-bytes.invariant.within c.deref.ensures.value c.in-Refused.ensures

pub returns-in-Lost : goal.returns-in-Lost
unfolding Fails
returns-in-Lost g c = stands_at _ _ _ _ _ c.loop-bytes.calls _ c.loop-bytes.held.items _ Lost c.loop-bytes.invariant.steps c.loop-bytes.invariant.within c.deref.ensures.value c.in-Lost.ensures

pub returns-in-Memory : goal.returns-in-Memory
unfolding Fails
returns-in-Memory g c = tt

pub returns-then-calls-turns : goal.returns-then-calls-turns
unfolding Fails
returns-then-calls-turns g c =
    let all : c.loop-bytes.calls ≡ c.args.turns = omega (arith, c.loop-bytes.invariant.within, c.if-calls-turns.true) in
    worn_at _ _ _ _ _ c.loop-bytes.calls _ c.loop-bytes.held.items _ c.loop-bytes.invariant.steps all c.deref.ensures.value c.in-Waits.ensures

pub returns-then-is_err : goal.returns-then-is_err
unfolding Fails
returns-then-is_err g c = tt

pub loop-bytes-smaller-in-Got : goal.loop-bytes-smaller-in-Got
loop-bytes-smaller-in-Got g c = omega (arith, c.if-calls-turns.false)

pub loop-bytes-preserved-in-Got : goal.loop-bytes-preserved-in-Got
loop-bytes-preserved-in-Got g c = record {
  steps = heard_at _ _ _ _ _ c.loop-bytes.calls _ c.loop-bytes.held.items _ (take c.in-Got.n c.recv.new.buf) _ c.loop-bytes.invariant.steps c.deref.ensures.value c.in-Waits.ensures (search rules) c.in-Got.ensures.told (search rules);
  within = omega (arith, c.if-calls-turns.false);
}

pub loop-bytes-smaller : goal.loop-bytes-smaller
loop-bytes-smaller g c = omega (arith, c.if-calls-turns.false)

pub loop-bytes-preserved : goal.loop-bytes-preserved
loop-bytes-preserved g c = record {
  steps = idle_at _ _ _ _ _ c.loop-bytes.calls _ c.loop-bytes.held.items _ c.loop-bytes.invariant.steps c.deref.ensures.value c.in-Waits.ensures c.in-Idle.ensures.told;
  within = omega (arith, c.if-calls-turns.false);
}

pub returns-in-End : goal.returns-in-End
unfolding Fails
returns-in-End g c =
    then_at _ _ _ _ _ c.loop-bytes.calls _ c.loop-bytes.held.items _ Waits _ c.loop-bytes.invariant.steps c.loop-bytes.invariant.within c.deref.ensures.value c.in-Waits.ensures c.in-End.ensures.told

pub returns-in-Failed : goal.returns-in-Failed
unfolding Fails
returns-in-Failed g c =
    then_at _ _ _ _ _ c.loop-bytes.calls _ c.loop-bytes.held.items _ Waits _ c.loop-bytes.invariant.steps c.loop-bytes.invariant.within c.deref.ensures.value c.in-Waits.ensures c.in-Failed.ensures.told
