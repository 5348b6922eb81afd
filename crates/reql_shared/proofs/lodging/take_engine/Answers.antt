use Rattle.std.proofs.Common.{None, ◌∷◌, ap, ◌∙◌}
use Rattle.atomic_table.specs.Table.{rest}
use Rattle.reql_shared.specs.declared.view.Lodged.{Lodged}
use Rattle.reql_shared.proofs.lodging.take_engine.Goals as goal

pub returns-clause-slot : goal.returns-clause-slot
returns-clause-slot g c =
    let none : Lodged g.row.E.Denot g.row.E-Cmd.Denot = record { engine = None; asked = None } in
    (none, ap (λ m. m.1) c.exchange-engine.ensures.3 ∙ ap (λ slots. (0, none) ∷ rest slots) c.requires.held.1.1)
