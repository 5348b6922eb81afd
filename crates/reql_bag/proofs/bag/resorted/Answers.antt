use Rattle.std.proofs.Common.{◌≡◌, map, ap, ◌∙◌}
use Rattle.reql_datum.specs.View.{plain}
use Rattle.reql_bag.specs.Bag.{in_order}
use Rattle.reql_bag.proofs.Ordered.{std_sorted}
use Rattle.reql_bag.proofs.bag.resorted.Goals as goal

pub returns : goal.returns
returns c =
    let made = std_sorted c.in_ok-copies.copies.items c.sort_unstable.new.self.items c.sort_unstable.ensures.permutation c.sort_unstable.ensures.sorted in
    let is : map plain c.deref.result.now ≡ in_order c.args.items.now = ap (map plain) c.deref.ensures.value ∙ made ∙ ap in_order c.in_ok-copies.ensures in
    rw is at c.items_of.ensures
