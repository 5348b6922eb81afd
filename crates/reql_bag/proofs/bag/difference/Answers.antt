use Rattle.std.proofs.Common.{◌+◌, drop, sym, ◌∙◌}
use Rattle.reql_datum.specs.View.{plain}
use Rattle.reql_bag.specs.Bag.{less_all}
use Rattle.reql_bag.proofs.Merging.{merges_less, merges_greater}
use Rattle.reql_bag.proofs.bag.difference.Goals as goal

pub loop-old-preserved-in-Less : goal.loop-old-preserved-in-Less
loop-old-preserved-in-Less c =
    rw (c.in_ok-add-in-Less.ensures)
    (merges_less c.loop-old.left c.loop-old.came (drop c.loop-old.from c.args.olds.now) (drop c.loop-old.to c.args.news.now) (less_all c.args.olds.now c.args.news.now) (less_all c.args.news.now c.args.olds.now)
    (drop (c.loop-old.from + 1) c.args.olds.now) (drop (c.loop-old.to + 1) c.args.news.now) (plain c.in-Some-Some.old.now) (plain c.in-Some-Some.new.now)
    c.in-Some-Some.ensures.rest c.in-Some-Some.ensures'.rest (sym c.compare.ensures.answer ∙ c.in-Less.is) c.loop-old.invariant)

pub loop-old-preserved-in-Greater : goal.loop-old-preserved-in-Greater
loop-old-preserved-in-Greater c =
    rw (c.in_ok-add-in-Greater.ensures)
    (merges_greater c.loop-old.left c.loop-old.came (drop c.loop-old.from c.args.olds.now) (drop c.loop-old.to c.args.news.now) (less_all c.args.olds.now c.args.news.now) (less_all c.args.news.now c.args.olds.now)
    (drop (c.loop-old.from + 1) c.args.olds.now) (drop (c.loop-old.to + 1) c.args.news.now) (plain c.in-Some-Some.old.now) (plain c.in-Some-Some.new.now)
    c.in-Some-Some.ensures.rest c.in-Some-Some.ensures'.rest (sym c.compare.ensures.answer ∙ c.in-Greater.is) c.loop-old.invariant)
