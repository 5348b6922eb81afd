use Rattle.std.proofs.Common.{rules, ◌≡◌, ◌++◌, ◌∷◌, [], length, ap, ◌∙◌, append_assoc, arith}
use Rattle.std.specs.Vec.Iter.{into_iter_items}
use Rattle.std.proofs.lemmas.List.{map_push}
use Rattle.std.proofs.lemmas.List.Elements.{All-push}
use Rattle.reql_shared.specs.History.{AllBelow}
use Rattle.reql_shared.specs.Machine.{replay}
use Rattle.reql_hall.proofs.Counting.{has_room_for, all_taken}
use Rattle.reql_hall.proofs.closing.close_all.Goals as goal

pub push_reserved-requires : goal.push_reserved-requires
push_reserved-requires g c =
    let i = c.loop-one.invariant in
    has_room_for (λ f. f.object) _ _ _ _ c.in-Some.one _ _ _ i.0 c.in-Some.ensures.steps.0 i.1 i.2 (omega (arith, c.loop-one.closed.ok))

pub loop-one-preserved : goal.loop-one-preserved
loop-one-preserved g c =
    let at = c.loop-one in
    let x = c.in-Some.one in
    let steps : into_iter_items at.one-iterator ≡ x ∷ into_iter_items c.next.new.self = c.in-Some.ensures.steps.0 in
    let e = c.close.ensures in
    let start = at.invariant.2 in (
      append_assoc at.yielded (x ∷ []) _ ∙ rw (← steps) at.invariant.0,
      search rules,
      rw (c.push_reserved.ensures.items, map_push (λ f. f.object) at.closed.items c.close.result) (λ k. start k ++ e.object k ∷ []),
      rw c.push_reserved.ensures.items (All-push (λ f. g.E.Engine.state f.engine ≡ replay g.E.Engine.machine f.object.start f.history) at.closed.items c.close.result at.invariant.3 (rw e.object e.state)),
      rw c.push_reserved.ensures.items (All-push (λ f. AllBelow f.object.passes f.history) at.closed.items c.close.result at.invariant.4 (rw e.object e.numbers)),
      omega (arith, at.invariant.5, c.in-Some.ensures.steps.1, ap length steps),
    )

pub returns-clause-objects : goal.returns-clause-objects
returns-clause-objects g c =
    let i = c.loop-one.invariant in
    i.2 ∙ all_taken _ _ _ _ i.0 i.5 c.in-None.ensures.steps.0 ∙ c.into_iter-one-iterator.ensures.into_iter_gives.0
