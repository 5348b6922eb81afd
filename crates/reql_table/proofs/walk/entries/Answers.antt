use Rattle.std.proofs.Common.{rules}
use Rattle.reql_table.specs.Inside.{pairs_inside}
use Rattle.reql_table.proofs.Turned.{turned_result}
use Rattle.reql_table.proofs.walk.entries.Goals as goal

pub returns-then-down : goal.returns-then-down
returns-then-down c =
    turned_result c.args.slice.now.filed c.args.down c.entries_of.result c.in_ok-found.found.items c.deref.result.now (pairs_inside c.args.slice.now) c.if-down.true c.entries_of.ensures (search rules) (search rules)
