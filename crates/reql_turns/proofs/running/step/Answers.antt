use Rattle.std.proofs.Common.{refl, ap, arith}
use Rattle.reql_turns.proofs.Stepping.{hears_on, step_on, worn_on}
use Rattle.reql_turns.proofs.running.step.Goals as goal

pub turn-requires-clause-hearing : goal.turn-requires-clause-hearing
turn-requires-clause-hearing g c = hears_on (g.H.Handler.talk c.args.handler.now) g.L.Link.tape _ c.args.running.now c.requires.on

pub returns-then-running-limits-clause-steps : goal.returns-then-running-limits-clause-steps
returns-then-running-limits-clause-steps g c = λ start on. worn_on (g.H.Handler.talk c.args.handler.now) g.L.Link.tape start _ c.args.running.now (let e = ap (λ l. l.turns) c.limits.ensures in omega (arith, c.if-running-limits.true, e)) on

pub returns-clause-steps : goal.returns-clause-steps
returns-clause-steps g c = λ start on. step_on (g.H.Handler.talk c.args.handler.now) g.L.Link.tape start _ _ c.args.running.now _ c.turn.result refl (let e = ap (λ l. l.turns) c.limits.ensures in omega (arith, c.if-running-limits.false, e)) c.turn.ensures.turned on
