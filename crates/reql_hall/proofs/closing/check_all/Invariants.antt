use Rattle.std.proofs.Common.{◌≡◌, All}
use Rattle.std.specs.Prelude.{map}
use Rattle.reql_hall.specs.Rooms.{Sits}
use Rattle.reql_hall.proofs.Checking.{CheckedDesks}
use Rattle.reql_hall.proofs.closing.check_all.Given as goal

abbrev pub invariant-loop-desk : goal.invariant-loop-desk
invariant-loop-desk g l =
    (l.names ≡ l.initial.names) × (l.slots ≡ l.initial.slots)
    × CheckedDesks l.initial.desks (record { names = l.initial.names.history; slots = map (λ f. f.history) l.initial.slots }) l.desks l.desk-index
    × All (Sits (record { names = l.initial.names.object; slots = map (λ f. f.object) l.initial.slots })) l.desks
