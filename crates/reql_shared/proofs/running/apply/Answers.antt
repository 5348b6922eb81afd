use Rattle.std.proofs.Common.{rules, ◌≡◌, ◌+◌, ◌<◌, ◌^◌, [], ◌∷◌, refl, sym, ap, ◌∙◌, subst, Some, None, arith, length}
use Rattle.reql_shared.specs.declared.view.Lodged.{Lodged}
use Rattle.reql_shared.specs.Rule.{Lodges, IsIn}
use Rattle.reql_shared.proofs.Locked.{adds_as}
use Rattle.reql_shared.proofs.Engines.{lodges_on, lodges_still, in_same, in_added}
use Rattle.reql_shared.proofs.running.apply.Goals.{then-records, else-records}
use Rattle.reql_shared.proofs.running.apply.Goals as goal

pub fetch_add-requires : goal.fetch_add-requires
fetch_add-requires g c =
    let view = c.put_engine.ensures.view ∙ c.take_engine-engine.ensures.view in
    let yes = sym c.records.ensures.recorded ∙ c.if-records.true in
    let room : length c.args.seat.now.me.0.seen + 1 < 2 ^ 64 = omega (arith, c.in-Ok.ensures.room yes, c.take_engine-engine.ensures.place) in (
      search rules,
      search rules,
      adds_as (Lodges g.E.Engine.state g.E.Engine.machine) _ _ _ _ _ _ c.of-asked.result c.requires.sized.1 c.put_engine.ensures.slot (ap (λ v. v.holds) view ∙ c.requires.held.0) (ap (λ v. v.own) view ∙ c.requires.numbered.0) (subst (λ v. length v.seen + 1 < 2 ^ 64) (sym view) room) refl,
    )

pub returns-after-records-clause-held : goal.returns-after-records-clause-held
returns-after-records-clause-held g c =
    let e = g.E.Engine in
    let lodges = Lodges e.state e.machine in
    let v = c.args.seat.now.me.0 in
    let taken = c.take_engine-engine.ensures in
    let asked = c.of-asked.result in
    let desk : Lodged g.row.E.Denot g.row.E-Cmd.Denot = record { engine = Some c.apply.new.self; asked = Some asked } in
    let is : c.put_engine.new.seat.me ≡ (v, (0, desk) ∷ []) = λ k. ((c.put_engine.ensures.view ∙ taken.view) k, c.put_engine.ensures.slot k) in
    elim c.if-records.branch [
      | then-records w ↦
          let yes = sym c.records.ensures.recorded ∙ w.if-records.true in
          subst (λ s. IsIn lodges s.me) (sym w.seat-is)
          (in_added lodges _ _ v desk asked is w.fetch_add.ensures.2.0 refl c.requires.held.0
          (lodges_on e.state e.machine v.start v.seen c.take_engine-engine.result c.apply.new.self (Some asked) v.number asked.value taken.state taken.place
          (c.in-Ok.ensures.recorded yes ∙ (λ k. e.machine.after (e.state c.take_engine-engine.result) (sym c.requires.numbered.1 k) (sym c.of-asked.ensures k)))
          (c.in-Ok.ensures.counted yes)))
      | else-records w ↦
          subst (λ s. IsIn lodges s.me) (sym w.seat-is)
          (in_same lodges _ v desk is c.requires.held.0
          (lodges_still e.state e.machine v.start v.seen c.take_engine-engine.result c.apply.new.self (Some asked) taken.state taken.place
          (c.in-Ok.ensures.same (sym c.records.ensures.recorded ∙ w.if-records.false))))
    ]

pub returns-in-Err-clause-held : goal.returns-in-Err-clause-held
returns-in-Err-clause-held g c =
    let e = g.E.Engine in
    let v = c.args.seat.now.me.0 in
    let taken = c.take_engine-engine.ensures in
    let desk : Lodged g.row.E.Denot g.row.E-Cmd.Denot = record { engine = Some c.apply.new.self; asked = None } in
    let is : c.put_engine-in-Err.new.seat.me ≡ (v, (0, desk) ∷ []) = λ k. ((c.put_engine-in-Err.ensures.view ∙ taken.view) k, c.put_engine-in-Err.ensures.slot k) in
    in_same (Lodges e.state e.machine) _ v desk is c.requires.held.0 (lodges_still e.state e.machine v.start v.seen c.take_engine-engine.result c.apply.new.self None taken.state taken.place c.in-Err.ensures.refused)
