use Rattle.std.proofs.Common.{rules, ◌≡◌, ◌∷◌, length, refl, ap, sym, ◌∙◌, arith}
use Rattle.std.specs.Prelude.{⊤}
use Rattle.std.specs.Vec.Iter.{into_iter_items}
use Rattle.reql_serve.specs.Working.{IsThere}
use Rattle.reql_serve.proofs.Seating.{room_for, zip_more, zip_whole, step_on, next_of}
use Rattle.reql_serve.proofs.seats.part.Goals as goal

pub desk_of-requires : goal.desk_of-requires
desk_of-requires g c =
    record { there = next_of (λ w. IsThere w.bench (λ b. ⊤)) _ _ _ _ _ c.in-Some.worker c.requires.there c.into_iter-worker-iterator.ensures.into_iter_gives.0 c.loop-worker.invariant.0 c.in-Some.ensures.steps.0 }

pub push_reserved-requires : goal.push_reserved-requires
push_reserved-requires g c =
    let i = c.loop-worker.invariant in
    room_for _ _ _ _ _ c.in-Some.worker c.loop-worker.desks.items _ _ i.0 c.in-Some.ensures.steps.0 i.2 i.4 (omega (arith, c.loop-worker.desks.ok))

pub push_reserved-requires-in-loop-worker : goal.push_reserved-requires-in-loop-worker
push_reserved-requires-in-loop-worker g c =
    let i = c.loop-worker.invariant in
    room_for _ _ _ _ _ c.in-Some.worker c.loop-worker.ends.items _ _ i.0 c.in-Some.ensures.steps.0 i.1 i.3 (omega (arith, c.loop-worker.ends.ok))

pub loop-worker-preserved : goal.loop-worker-preserved
loop-worker-preserved g c =
    let at = c.loop-worker in
    let x = c.in-Some.worker in
    let steps : into_iter_items at.worker-iterator ≡ x ∷ into_iter_items c.next.new.self = c.in-Some.ensures.steps.0 in (
      step_on _ _ _ _ x at.invariant.0 steps,
      search rules,
      search rules,
      zip_more _ at.yielded at.ends.items _ x _ c.push_reserved-in-loop-worker.ensures.items at.invariant.3 (refl, refl, refl, refl),
      zip_more _ at.yielded at.desks.items _ x _ c.push_reserved.ensures.items at.invariant.4 c.desk_of.ensures,
      omega (arith, at.invariant.5, c.in-Some.ensures.steps.1, ap length steps),
    )

pub returns-clause-left : goal.returns-clause-left
returns-clause-left g c =
    let i = c.loop-worker.invariant in
    zip_whole _ _ _ _ _ _ i.3 i.0 (sym i.5 ∙ c.in-None.ensures.steps.0) c.into_iter-worker-iterator.ensures.into_iter_gives.0

pub returns-clause-desks : goal.returns-clause-desks
returns-clause-desks g c =
    let i = c.loop-worker.invariant in
    zip_whole _ _ _ _ _ _ i.4 i.0 (sym i.5 ∙ c.in-None.ensures.steps.0) c.into_iter-worker-iterator.ensures.into_iter_gives.0
