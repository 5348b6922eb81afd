use Rattle.std.proofs.Common.{◌≡◌, map, ap, ◌∙◌}
use Rattle.reql_datum.specs.Order.{order}
use Rattle.reql_datum.specs.View.{plain}
use Rattle.reql_rules.specs.Sorting.{sorted}
use Rattle.reql_seq.proofs.Sorts.{plain_sorted, distinct_rises, distinct_members}
use Rattle.reql_seq.proofs.each_once.distinct.Goals as goal

pub returns-clause-items : goal.returns-clause-items
returns-clause-items c =
    let made = plain_sorted c.in_ok-copies.copies.items c.sort.new.self.items c.in_ok-sort.ensures.sorted c.sort.ensures.stable in
    let is : map plain c.deref.result.now ≡ sorted order c.args.list.now = ap (map plain) c.deref.ensures.value ∙ made ∙ ap (sorted order) c.in_ok-copies.ensures in
    rw is at c.once.ensures

pub returns-clause-rising : goal.returns-clause-rising
returns-clause-rising c = distinct_rises c.once.result c.args.list.now (returns-clause-items c)

pub returns-clause-members : goal.returns-clause-members
returns-clause-members c = distinct_members c.once.result c.args.list.now (returns-clause-items c)
