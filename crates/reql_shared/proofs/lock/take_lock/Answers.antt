use Rattle.std.proofs.Common.{rules}
use Rattle.reql_shared.specs.Rule.{Lodges}
use Rattle.reql_shared.proofs.Locked.{takes_free_as}
use Rattle.reql_shared.proofs.lock.take_lock.Goals as goal

pub compare_exchange-requires : goal.compare_exchange-requires
compare_exchange-requires g c =
    (c.requires.table, search rules, takes_free_as (Lodges g.E.Engine.state g.E.Engine.machine) _ _ _ _ _ c.requires.sized.1 c.requires.seat.0 c.requires.seat.1)
