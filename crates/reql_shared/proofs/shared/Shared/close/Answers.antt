use Rattle.std.proofs.Common.{rules}
use Rattle.reql_shared.specs.Rule.{Lodges}
use Rattle.reql_shared.proofs.Sharing.{arrives}
use Rattle.reql_shared.proofs.shared.Shared.close.Goals as goal

pub load_new_seat-seat-requires : goal.load_new_seat-seat-requires
load_new_seat-seat-requires g c = (search rules, arrives (Lodges g.E.Engine.state g.E.Engine.machine) _ _ _)
