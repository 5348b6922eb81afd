use Rattle.std.proofs.Common.{rules, ℕ, ap, ◌∙◌, subst, IfOk}
use Rattle.reql_shared.specs.Acts.{Acts, Looked, Denied}
use Rattle.reql_shared.specs.Rule.{Lodges, released, sight}
use Rattle.reql_shared.proofs.Locked.{counts_as}
use Rattle.reql_shared.proofs.Acting.{looked, denied, always_err}
use Rattle.reql_shared.proofs.shared.Shared.look.Goals as goal

pub load-pass-inside-requires : goal.load-pass-inside-requires
load-pass-inside-requires g c =
    (search rules, search rules, counts_as (Lodges g.E.Engine.state g.E.Engine.machine) _ _ _ _ _ c.self.invariant.1 c.ask-answer.ensures.held.0)

pub returns-clause-looked : goal.returns-clause-looked
returns-clause-looked g c =
    let same = c.give_lock.ensures.table ∙ c.load-pass-inside.ensures.0 ∙ c.ask-answer.ensures.table ∙ c.take_lock.ensures.table in
    let freed = ap (λ m. m.0) c.give_lock.ensures.free ∙ ap (λ m. released m.0) c.load-pass-inside.ensures.2.0 ∙ ap released c.ask-answer.ensures.view in
    subst (λ p. IfOk c.ask-answer.result (λ answer. (place : ℕ) × Acts g.E.Engine.machine p (sight c.give_lock.new.seat.table_id c.give_lock.new.seat.me.0) (Looked place c.args.question.now (g.E.Engine.heard answer)))) c.pass.view_is
    (looked g.E.Engine.machine (Lodges g.E.Engine.state g.E.Engine.machine) _ _ _ _ _ same c.pass.invariant.own c.take_lock.ensures.entered g.E.Engine.heard _ c.args.question.now c.ask-answer.result c.ask-answer.ensures.answer freed)

pub returns-clause-denied : goal.returns-clause-denied
returns-clause-denied g c =
    let same = c.give_lock.ensures.table ∙ c.load-pass-inside.ensures.0 ∙ c.ask-answer.ensures.table ∙ c.take_lock.ensures.table in
    let freed = ap (λ m. m.0) c.give_lock.ensures.free ∙ ap (λ m. released m.0) c.load-pass-inside.ensures.2.0 ∙ ap released c.ask-answer.ensures.view in
    always_err _ c.ask-answer.result (λ memory. subst (λ p. (place : ℕ) × Acts g.E.Engine.machine p (sight c.give_lock.new.seat.table_id c.give_lock.new.seat.me.0) (Denied place)) c.pass.view_is
    (denied g.E.Engine.machine (Lodges g.E.Engine.state g.E.Engine.machine) _ _ _ _ _ same c.pass.invariant.own c.take_lock.ensures.entered freed))
