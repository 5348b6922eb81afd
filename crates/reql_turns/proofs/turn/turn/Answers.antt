use Rattle.std.proofs.Common.{refl}
use Rattle.reql_turns.specs.declared.ears.Phase.TheVariants as phases
use Rattle.reql_turns.proofs.Frames.{turn_of_greeting, turn_ended, turn_went, still_short}
use Rattle.reql_turns.proofs.Exchanging.{turn_of_login}
use Rattle.reql_turns.proofs.turn.turn.Goals as goal

pub hear_more-requires-clause-short : goal.hear_more-requires-clause-short
hear_more-requires-clause-short g c = (still_short (g.H.Handler.talk c.args.handler.now) (g.H.Handler.work c.args.handler.now) c.args.ears.now c.in-Waiting.is c.requires.hearing).0

pub hear_more-requires-clause-none : goal.hear_more-requires-clause-none
hear_more-requires-clause-none g c = (still_short (g.H.Handler.talk c.args.handler.now) (g.H.Handler.work c.args.handler.now) c.args.ears.now c.in-Waiting.is c.requires.hearing).1

pub returns-in-Waiting-clause-turned : goal.returns-in-Waiting-clause-turned
returns-in-Waiting-clause-turned g c = turn_of_greeting (g.H.Handler.talk c.args.handler.now) phases.Waiting _ _ _ c.args.ears.now _ c.hear_more.result tt c.in-Waiting.is (c.hear_more.ensures (g.H.Handler.talk c.args.handler.now))

pub returns-in-Whole-clause-turned : goal.returns-in-Whole-clause-turned
returns-in-Whole-clause-turned g c = turn_of_greeting (g.H.Handler.talk c.args.handler.now) phases.Whole _ _ _ c.args.ears.now _ c.accept.result tt c.in-Whole.is (c.accept.ensures (g.H.Handler.talk c.args.handler.now))

pub returns-in-Called-clause-turned : goal.returns-in-Called-clause-turned
returns-in-Called-clause-turned g c = turn_of_greeting (g.H.Handler.talk c.args.handler.now) phases.Called _ _ _ c.args.ears.now _ c.call.result tt c.in-Called.is (c.call.ensures (g.H.Handler.talk c.args.handler.now))

pub returns-in-Login-clause-turned : goal.returns-in-Login-clause-turned
returns-in-Login-clause-turned g c = turn_of_login (g.H.Handler.talk c.args.handler.now) _ _ _ _ c.args.ears.now _ c.exchange.result c.in-Login.is c.exchange.ensures.exchanged

pub returns-in-Wrong-clause-turned : goal.returns-in-Wrong-clause-turned
returns-in-Wrong-clause-turned g c = turn_of_greeting (g.H.Handler.talk c.args.handler.now) (phases.Wrong c.in-Wrong.fault) _ _ _ c.args.ears.now _ c.refuse.result tt c.in-Wrong.is (c.refuse.ensures (g.H.Handler.talk c.args.handler.now))

pub returns-in-Some-clause-turned : goal.returns-in-Some-clause-turned
returns-in-Some-clause-turned g c = turn_ended (g.H.Handler.talk c.args.handler.now) _ _ _ _ c.args.ears.now c.args.ears.now c.in-Some.end c.in-Some.ensures.visited

pub returns-in_default-clause-turned : goal.returns-in_default-clause-turned
returns-in_default-clause-turned g c = turn_went (g.H.Handler.talk c.args.handler.now) _ _ _ _ _ _ c.args.ears.now _ c.go_on.result c.in-Over.is refl refl c.go_on.ensures.limit c.in_default.ensures.visited (rw c.visit.ensures.talk at c.go_on.ensures.goes)
