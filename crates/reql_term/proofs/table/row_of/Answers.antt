use Rattle.reql_term.proofs.Rows.{line_at, way_at, naming_at, task_at}
use Rattle.reql_term.proofs.table.row_of.Goals as goal

pub returns-clause-line : goal.returns-clause-line
returns-clause-line c = line_at c.args.op c.row_at.result c.row_at.ensures

pub returns-clause-way : goal.returns-clause-way
returns-clause-way c = way_at c.args.op c.row_at.result c.row_at.ensures

pub returns-clause-naming : goal.returns-clause-naming
returns-clause-naming c = naming_at c.args.op c.row_at.result c.row_at.ensures

pub returns-clause-task : goal.returns-clause-task
returns-clause-task c = task_at c.args.op c.row_at.result c.row_at.ensures
