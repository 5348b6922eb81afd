use Rattle.std.proofs.Common.{rules, ◌≡◌, true, false}
use Rattle.reql_shared.specs.Rule.{Lodges}
use Rattle.reql_shared.proofs.Sharing.{notes, takes_in, learns_as, parts}
use Rattle.reql_shared.proofs.Locked.{counts_as}
use Rattle.reql_shared.proofs.last.Final.check.Goals as goal

pub split_seat-blank-requires : goal.split_seat-blank-requires
split_seat-blank-requires g c = (search rules, search rules, notes (Lodges g.E.Engine.state g.E.Engine.machine) _ _ _ _)

pub join_seat-requires : goal.join_seat-requires
join_seat-requires g c =
    let rests : c.replace-theirs.result.me.0.holds ≡ false = search rules in
    (search rules, search rules, search rules, search rules, takes_in (Lodges g.E.Engine.state g.E.Engine.machine) _ _ _ _ _ _ g.E.Engine.some_state c.self.invariant.0.held c.self.invariant.0.own rests)

pub load-pass-inside-requires : goal.load-pass-inside-requires
load-pass-inside-requires g c = (search rules, search rules, learns_as (Lodges g.E.Engine.state g.E.Engine.machine) _ _ _ _ _ c.self.invariant.2)

pub split_seat-requires : goal.split_seat-requires
split_seat-requires g c =
    let has : c.load-pass-inside.new.seat.me.0.own ≡ true = search rules in
    (search rules, search rules, parts (Lodges g.E.Engine.state g.E.Engine.machine) _ _ _ _ has)

pub load-pass-inside-requires-2 : goal.load-pass-inside-requires-2
load-pass-inside-requires-2 g c =
    let held : c.split_seat.new.seat.me.0.holds ≡ true = search rules in
    (search rules, search rules, counts_as (Lodges g.E.Engine.state g.E.Engine.machine) _ _ _ _ _ c.self.invariant.2 held)
