use Rattle.reql_core.proofs.Numbers.{renamed_follows}
use Rattle.reql_core.proofs.indexing.with_renamed.Goals as goal

pub returns-clause-follows : goal.returns-clause-follows
returns-clause-follows c = renamed_follows c.args.table.now c.in_ok-moved.moved c.as_str.result.now c.args.new.now c.in_ok-moved.ensures.numbered c.in_ok-moved.ensures.next
