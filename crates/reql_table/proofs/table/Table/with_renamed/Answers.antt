use Rattle.reql_table.specs.Seen.{numbered}
use Rattle.reql_table.proofs.Listed.{moved_indexes}
use Rattle.reql_table.proofs.table.Table.with_renamed.Goals as goal

pub returns-in-Some-clause-indexes : goal.returns-in-Some-clause-indexes
returns-in-Some-clause-indexes c =
    moved_indexes c.moved.result c.args.self.now c.args.old.now c.args.new.now (numbered c.in-Some.index.now).1 c.in-Some.ensures.numbered c.moved.ensures.numbered
