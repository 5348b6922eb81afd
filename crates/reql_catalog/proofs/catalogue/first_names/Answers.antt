use Rattle.std.proofs.Common.{◌≡◌, ℕ, List, ap, ◌∙◌}
use Rattle.reql_catalog.specs.Machine.{done, no_names}
use Rattle.reql_catalog.specs.declared.catalog.Catalog.{Catalog}
use Rattle.reql_catalog.specs.declared.command.CatCmd.TheVariants as cmds
use Rattle.reql_catalog.proofs.Steps.{first_opens}
use Rattle.reql_catalog.proofs.catalogue.first_names.Goals as goal

pub returns-clause-bounds : goal.returns-clause-bounds
returns-clause-bounds c = first_opens c.args.slots c.in_ok-known.known (c.in_ok-known.ensures ∙ ap (λ (d : Catalog). done (cmds.DbCreate c.in_ok-test.test) d) c.no_names-nothing.ensures ∙ ap (λ (n : List ℕ). done (cmds.DbCreate n) (no_names c.args.slots)) c.in_ok-test.ensures)
