use Rattle.std.proofs.Common.{◌≡◌, ℕ, List, [], ◌∷◌, ap, ◌∙◌, codes}
use Rattle.reql_catalog.specs.Machine.{opened, done}
use Rattle.reql_catalog.specs.declared.catalog.Catalog.{Catalog}
use Rattle.reql_catalog.specs.declared.command.CatCmd.TheVariants as cmds
use Rattle.reql_catalog.proofs.Steps.{opens_to}
use Rattle.reql_catalog.proofs.catalogue.open_table.Goals as goal

pub returns-clause-bounds : goal.returns-clause-bounds
returns-clause-bounds c = opens_to c.args.table.now c.args.known.now c.in_ok-opened.opened (c.in_ok-opened.ensures
    ∙ ap (λ (k : List ℕ). done (cmds.TableCreate c.args.table.now.0 c.args.table.now.1 k) c.in_ok-with_db.with_db) c.in_ok-key.ensures
    ∙ ap (λ (d : Catalog). done (cmds.TableCreate c.args.table.now.0 c.args.table.now.1 (codes "id")) d) c.in_ok-with_db.ensures)
