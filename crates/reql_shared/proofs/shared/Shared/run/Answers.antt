use Rattle.std.proofs.Common.{rules, ℕ, ◌≡◌, List, Some, ap, ◌∙◌, subst, IfOk}
use Rattle.reql_shared.specs.declared.recorded.Recorded.{Recorded}
use Rattle.reql_shared.specs.Machine.{replay}
use Rattle.reql_shared.specs.Acts.{Acts, Ran, Denied}
use Rattle.reql_shared.specs.Rule.{Lodges, released, sight}
use Rattle.reql_shared.proofs.Locked.{counts_as}
use Rattle.reql_shared.proofs.Acting.{ran, denied, tells_on, if_err}
use Rattle.reql_shared.proofs.shared.Shared.run.Goals as goal

pub load-pass-inside-requires : goal.load-pass-inside-requires
load-pass-inside-requires g c =
    (search rules, search rules, counts_as (Lodges g.E.Engine.state g.E.Engine.machine) _ _ _ _ _ c.self.invariant.1 c.apply-answer.ensures.held.0)

pub returns-clause-ran : goal.returns-clause-ran
returns-clause-ran g c =
    let same = c.give_lock.ensures.table ∙ c.load-pass-inside.ensures.0 ∙ c.apply-answer.ensures.table ∙ c.take_lock.ensures.table in
    let freed = ap (λ m. m.0) c.give_lock.ensures.free ∙ ap (λ m. released m.0) c.load-pass-inside.ensures.2.0 in
    subst (λ p. IfOk c.apply-answer.result (λ reply. (place : ℕ) × Acts g.E.Engine.machine p (sight c.give_lock.new.seat.table_id c.give_lock.new.seat.me.0) (Ran place c.args.cmd (g.E.Engine.told reply)))) c.pass.view_is
    (ran g.E.Engine.machine (Lodges g.E.Engine.state g.E.Engine.machine) _ _ _ _ _ same c.pass.invariant.own c.take_lock.ensures.entered g.E.Engine.told _ _ c.args.cmd c.apply-answer.result c.pass.invariant.numbered freed c.apply-answer.ensures.reply c.apply-answer.ensures.grown)

pub returns-clause-tells : goal.returns-clause-tells
returns-clause-tells g c =
    let e = g.E.Engine in
    let same = c.give_lock.ensures.table ∙ c.load-pass-inside.ensures.0 ∙ c.apply-answer.ensures.table ∙ c.take_lock.ensures.table in
    subst (λ p. IfOk c.apply-answer.result (λ reply. (before : List (Recorded g.row.E-Cmd.Denot)) × (old new : g.row.E.Denot) × (e.state old ≡ replay e.machine p.object.start before) × e.tells old new p.number c.args.cmd (Some reply))) c.pass.view_is
    (tells_on e.machine (Lodges e.state e.machine) _ _ _ _ c.give_lock.new.seat.me.0 same c.pass.invariant.own c.take_lock.ensures.entered e.state (λ old new k r. e.tells old new k c.args.cmd (Some r)) _ c.apply-answer.result c.pass.invariant.numbered c.apply-answer.ensures.tells)

pub returns-clause-refused : goal.returns-clause-refused
returns-clause-refused g c =
    let same = c.give_lock.ensures.table ∙ c.load-pass-inside.ensures.0 ∙ c.apply-answer.ensures.table ∙ c.take_lock.ensures.table in
    let freed = ap (λ m. m.0) c.give_lock.ensures.free ∙ ap (λ m. released m.0) c.load-pass-inside.ensures.2.0 in
    if_err _ _ c.apply-answer.result (λ x still. subst (λ p. (place : ℕ) × Acts g.E.Engine.machine p (sight c.give_lock.new.seat.table_id c.give_lock.new.seat.me.0) (Denied place)) c.pass.view_is
    (denied g.E.Engine.machine (Lodges g.E.Engine.state g.E.Engine.machine) _ _ _ _ _ same c.pass.invariant.own c.take_lock.ensures.entered (freed ∙ ap released still.1))) c.apply-answer.ensures.refused
