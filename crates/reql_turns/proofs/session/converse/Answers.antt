use Rattle.std.proofs.Common.{◌≤◌, refl, ◌∙◌, arith}
use Rattle.reql_turns.proofs.Stepping.{worn_on}
use Rattle.reql_turns.proofs.session.converse.Goals as goal

pub loop-init : goal.loop-init
loop-init g c = (refl, c.requires.ready, refl, c.requires.first, λ start on. on)

pub step-requires-clause-on : goal.step-requires-clause-on
step-requires-clause-on g c = rw c.loop.invariant.0 (c.requires.on.0, c.loop.invariant.4 c.requires.on.0 c.requires.on.1)

pub loop-preserved : goal.loop-preserved
loop-preserved g c =
    let e = c.loop.invariant.0 in (
      c.step.ensures.talk ∙ e,
      c.step.ensures.ready,
      c.step.ensures.hall ∙ c.loop.invariant.2,
      omega (arith, c.step.ensures.counted c.in_default.is, c.loop.invariant.3),
      λ start on. (rw e at c.in_default.ensures.steps) start (c.loop.invariant.4 start on),
    )

pub returns-in-Some-clause-ends : goal.returns-in-Some-clause-ends
returns-in-Some-clause-ends g c = λ start on. (rw c.loop.invariant.0 at c.in-Some.ensures.steps) start (c.loop.invariant.4 start on)

pub returns-clause-ends : goal.returns-clause-ends
returns-clause-ends g c = λ start on.
    worn_on (g.H.Handler.talk c.args.handler.now) g.L.Link.tape start _ c.loop.running (omega (arith, c.loop.invariant.3, c.requires.most)) (c.loop.invariant.4 start on)
