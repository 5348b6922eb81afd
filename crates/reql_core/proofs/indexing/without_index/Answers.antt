use Rattle.reql_core.proofs.Numbers.{without_follows}
use Rattle.reql_core.proofs.indexing.without_index.Goals as goal

pub returns-clause-follows : goal.returns-clause-follows
returns-clause-follows c = without_follows c.args.table.now c.in_ok-rest.rest c.as_str.result.now c.in_ok-rest.ensures.numbered c.in_ok-rest.ensures.next
