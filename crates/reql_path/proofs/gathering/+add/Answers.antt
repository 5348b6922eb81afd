use Rattle.std.proofs.Common.{◌+◌, drop}
use Rattle.reql_datum.specs.View.{plain}
use Rattle.reql_path.proofs.Gathered.{more_item, item_end}
use Rattle.reql_path.proofs.gathering.+add.Goals as goal

pub add_all-loop-pattern-preserved : goal.add_all-loop-pattern-preserved
add_all-loop-pattern-preserved t c =
    more_item c.args.named.now.entries c.loop-pattern.named.entries c.add.new.named.entries (drop c.loop-pattern.place c.args.patterns.now) (drop (c.loop-pattern.place + 1) c.args.patterns.now) c.args.patterns.now
    (plain c.in-Some.pattern.now) c.in-Some.ensures.rest c.in_ok-add.ensures c.loop-pattern.invariant

pub add_all-returns : goal.add_all-returns
add_all-returns t c = item_end c.args.named.now.entries c.loop-pattern.named.entries (drop c.loop-pattern.place c.args.patterns.now) c.args.patterns.now c.in_default.ensures.rest c.loop-pattern.invariant
