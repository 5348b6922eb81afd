use Rattle.std.proofs.Common.{rules}
use Rattle.reql_shared.specs.Rule.{Lodges}
use Rattle.reql_shared.proofs.Sharing.{notes, hears, learns_as}
use Rattle.reql_shared.proofs.shared.Shared.hear.Goals as goal

pub split_seat-note-requires : goal.split_seat-note-requires
split_seat-note-requires g c = (search rules, search rules, notes (Lodges g.E.Engine.state g.E.Engine.machine) _ _ _ _)

pub join_seat-requires : goal.join_seat-requires
join_seat-requires g c = (search rules, search rules, search rules, search rules, hears (Lodges g.E.Engine.state g.E.Engine.machine) _ _ _ _ _ _ g.E.Engine.some_state c.a.invariant.free)

pub load-requires : goal.load-requires
load-requires g c = (search rules, search rules, learns_as (Lodges g.E.Engine.state g.E.Engine.machine) _ _ _ _ _ c.self.invariant.1)
