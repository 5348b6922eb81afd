use Rattle.std.proofs.Common.{◌≡◌, ◌++◌, drop, Ok}
use Rattle.reql_datum.specs.Answer.{◌>>=◌}
use Rattle.reql_rules.specs.Lists.{each}
use Rattle.reql_operand.specs.Tables.{view}
use Rattle.reql_apply_table.specs.Indexes.{status_in}
use Rattle.reql_apply_table.proofs.indexes.statuses_of.Given as goal

abbrev pub invariant-loop-name : goal.invariant-loop-name
invariant-loop-name g l =
    let status = status_in (view g.V.TableView.documents g.V.TableView.indexes g.V.TableView.entries l.table) in
    each status l.names ≡ (each status (drop l.name-index l.names) >>= λ ds. Ok (l.statuses ++ ds))
