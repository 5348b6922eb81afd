use Rattle.std.proofs.Common.{ℕ, IfOk, IfErr}
use Rattle.reql_shared.specs.Acts.{Ran, Denied, Acts}
use Rattle.reql_hall.specs.Rooms.{Tells}
use Rattle.reql_hall.proofs.Passing.{acted, sits_on}
use Rattle.reql_hall.proofs.desk.Desk.run.Goals as goal

pub returns-clause-of_this_hall : goal.returns-clause-of_this_hall
returns-clause-of_this_hall g c =
    sits_on _ _ c.args.slot c.index_mut.result.now c.run.new.pass (rw (← c.self.view_is) at c.requires.of_this_hall) c.requires.there c.index_mut.ensures.value c.run.ensures.object c.run.ensures.number

pub returns-clause-ran : goal.returns-clause-ran
returns-clause-ran g c =
    rw (← c.self.view_is) (acted (λ p q. IfOk c.run.result (λ reply. (place : ℕ) × Acts g.C.Engine.machine p q (Ran place c.args.order (g.C.Engine.told reply)))) g.C.Engine.some_state _ _ c.args.slot c.index_mut.result.now c.run.new.pass (rw (← c.self.view_is) at c.requires.of_this_hall) c.requires.there c.index_mut.ensures.value c.run.ensures.ran)

pub returns-clause-tells : goal.returns-clause-tells
returns-clause-tells g c =
    rw (← c.self.view_is) (acted (λ p q. IfOk c.run.result (λ reply. Tells g.C.Engine.machine g.C.Engine.state g.C.Engine.tells p c.args.order reply)) g.C.Engine.some_state _ _ c.args.slot c.index_mut.result.now c.run.new.pass (rw (← c.self.view_is) at c.requires.of_this_hall) c.requires.there c.index_mut.ensures.value c.run.ensures.tells)

pub returns-clause-refused : goal.returns-clause-refused
returns-clause-refused g c =
    rw (← c.self.view_is) (acted (λ p q. IfErr c.run.result (λ refused. (place : ℕ) × Acts g.C.Engine.machine p q (Denied place))) g.C.Engine.some_state _ _ c.args.slot c.index_mut.result.now c.run.new.pass (rw (← c.self.view_is) at c.requires.of_this_hall) c.requires.there c.index_mut.ensures.value c.run.ensures.refused)
