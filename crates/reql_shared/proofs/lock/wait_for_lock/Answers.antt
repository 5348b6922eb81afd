use Rattle.std.proofs.Common.{rules, ap, ◌∙◌}
use Rattle.reql_shared.specs.Rule.{Lodges}
use Rattle.reql_shared.proofs.Locked.{takes_awaited_as}
use Rattle.reql_shared.proofs.lock.wait_for_lock.Goals as goal

pub swap-requires : goal.swap-requires
swap-requires g c =
    let i = c.loop.invariant in
    (i.0 ∙ c.requires.table, search rules, takes_awaited_as (Lodges g.E.Engine.state g.E.Engine.machine) _ _ _ _ _ c.requires.sized.1 (ap (λ m. m.1) i.1 ∙ c.requires.seat.0) (ap (λ m. m.0.live) i.1 ∙ c.requires.seat.1))
