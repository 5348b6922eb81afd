use Rattle.reql_table_spec.specs.Engines.{kept_of}
use Rattle.reql_tally.proofs.Advances.{found_as}
use Rattle.reql_tally.proofs.advancing.change_at.Goals as goal

pub returns : goal.returns
returns c = found_as kept_of c.args.changes.now c.args.place c.kept_at.result c.kept_at.ensures
