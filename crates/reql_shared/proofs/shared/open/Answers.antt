use Rattle.std.proofs.Common.{rules, ◌≡◌, [], ◌∷◌, subst, sym, refl, Some, None}
use Rattle.reql_shared.specs.Rule.{Kept, Lodges, maker}
use Rattle.reql_shared.specs.declared.view.Lodged.{Lodged}
use Rattle.atomic_table.specs.Table.{opening}
use Rattle.reql_shared.proofs.Locked.{opens}
use Rattle.reql_shared.proofs.shared.open.Goals as goal

pub new-requires : goal.new-requires
new-requires g c =
    let lodges = Lodges g.E.Engine.state g.E.Engine.machine in
    let start = g.E.Engine.state c.of.result.value in
    let engine = c.args.engine in
    let d : Lodged g.row.E.Denot g.row.E-Cmd.Denot = record { engine = Some engine; asked = None } in
    let same : c.push_reserved.new.self.items ≡ d ∷ [] = search rules in
    subst (λ xs. Kept lodges start c.from.result (opening (0 ∷ 0 ∷ []) xs (maker start c.from.result 0))) (sym same) (opens lodges start c.from.result d (engine, refl, search rules, search rules))
