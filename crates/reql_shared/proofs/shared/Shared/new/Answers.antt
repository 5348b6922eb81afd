use Rattle.std.proofs.Common.{◌≡◌, All, map, subst, sym, ◌∙◌}
use Rattle.std.specs.List.{range_with_len}
use Rattle.reql_shared.specs.Sight.{Object, Sight, unused, unused_passes}
use Rattle.reql_shared.proofs.Unused.{unused_object}
use Rattle.reql_shared.proofs.shared.Shared.new.Goals as goal

pub returns-clause-of_this_engine : goal.returns-clause-of_this_engine
returns-clause-of_this_engine g c =
    let shared = c.in_ok-table.table.shared in
    let object : Object g.row.E-State.Denot = record { id = shared.table_id; start = g.E.Engine.state shared.key.engine.value; passes = shared.key.passes } in
    let count = sym c.in_ok-table.ensures.key.0 in
    let made : c.in_ok-made.made.items ≡ unused_passes object =
    c.in_ok-made.ensures ∙ (λ k. map (unused record { id = shared.table_id; start = g.E.Engine.state shared.key.engine.value; passes = count k }) (range_with_len 0 (count k))) in
    subst (All (λ (p : Sight g.row.E-Cmd.Denot g.row.E-State.Denot). p.object ≡ object)) (sym made) (unused_object object)
