use Rattle.std.proofs.Common.{rules}
use Rattle.reql_shared.specs.Rule.{Lodges}
use Rattle.reql_shared.proofs.Locked.{gives_as}
use Rattle.reql_shared.proofs.lock.give_lock.Goals as goal

pub swap-requires : goal.swap-requires
swap-requires g c =
    let lodges = Lodges g.E.Engine.state g.E.Engine.machine in
    let engine = c.requires.held.1 in
    (c.requires.table, search rules, gives_as lodges _ _ _ _ _ engine.0 c.requires.sized.1 engine.1 c.requires.live c.requires.held.0 engine.2)
