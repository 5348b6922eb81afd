use Rattle.std.proofs.Common.{◌≡◌, ◌∷◌, [], refl, ◌∙◌, append_assoc}
use Rattle.std.specs.Vec.Iter.{into_iter_items}
use Rattle.std.proofs.lemmas.List.{map_push}
use Rattle.reql_hall.proofs.Dealing.{shares_none, shares_more}
use Rattle.reql_hall.proofs.opening.share_all.Goals as goal

pub loop-engine-init : goal.loop-engine-init
loop-engine-init g c = (refl, rw c.new-slots.ensures.items (shares_none _ _ c.requires.count c.requires.empty))

pub loop-engine-preserved : goal.loop-engine-preserved
loop-engine-preserved g c =
    let at = c.loop-engine in
    let x = c.in-Some.engine in
    let steps : into_iter_items at.engine-iterator ≡ x ∷ into_iter_items c.next.new.self = c.in-Some.ensures.steps.0 in (
      append_assoc at.yielded (x ∷ []) _ ∙ rw (← steps) at.invariant.0,
      rw (map_push g.C.Engine.state at.yielded x) (shares_more _ _ _ _ _ _ _ _ at.invariant.1 c.in_ok-share_one.ensures),
    )
