use Rattle.reql_term.specs.Views.{index_of}
use Rattle.reql_core.proofs.Numbers.{put_follows}
use Rattle.reql_core.proofs.indexing.with_index.Goals as goal

pub returns-clause-follows : goal.returns-clause-follows
returns-clause-follows c = put_follows c.args.table.now c.in_ok-indexed.indexed c.args.def.now.name (index_of c.args.def.now) c.in_ok-indexed.ensures.numbered c.in_ok-indexed.ensures.next
