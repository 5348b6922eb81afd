use Rattle.std.proofs.Common.{ℕ, IfOk, IfErr}
use Rattle.reql_shared.specs.Acts.{Looked, Denied, Acts}
use Rattle.reql_hall.proofs.Passing.{acted, sits_on}
use Rattle.reql_hall.proofs.desk.Desk.look.Goals as goal

pub returns-clause-of_this_hall : goal.returns-clause-of_this_hall
returns-clause-of_this_hall g c =
    sits_on _ _ c.args.slot c.index_mut.result.now c.look.new.pass (rw (← c.self.view_is) at c.requires.of_this_hall) c.requires.there c.index_mut.ensures.value c.look.ensures.object c.look.ensures.number

pub returns-clause-looked : goal.returns-clause-looked
returns-clause-looked g c =
    rw (← c.self.view_is) (acted (λ p q. IfOk c.look.result (λ answer. (place : ℕ) × Acts g.C.Engine.machine p q (Looked place c.args.question.now (g.C.Engine.heard answer)))) g.C.Engine.some_state _ _ c.args.slot c.index_mut.result.now c.look.new.pass (rw (← c.self.view_is) at c.requires.of_this_hall) c.requires.there c.index_mut.ensures.value c.look.ensures.looked)

pub returns-clause-denied : goal.returns-clause-denied
returns-clause-denied g c =
    rw (← c.self.view_is) (acted (λ p q. IfErr c.look.result (λ memory. (place : ℕ) × Acts g.C.Engine.machine p q (Denied place))) g.C.Engine.some_state _ _ c.args.slot c.index_mut.result.now c.look.new.pass (rw (← c.self.view_is) at c.requires.of_this_hall) c.requires.there c.index_mut.ensures.value c.look.ensures.denied)
