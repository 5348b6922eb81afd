use Rattle.reql_load.proofs.Places.{put_in_order}
use Rattle.reql_load.proofs.steps.come.Goals as goal

pub returns : goal.returns
returns c =
    put_in_order c.args.new c.in-Some.value c.in_ok-copy.field-0 c.args.bag.now.items c.deref.result.now c.insert.new.self.items c.count_below-place.result
    c.in-Some.is c.deref.ensures.value c.count_below-place.ensures.count c.in_ok-copy.ensures c.in_ok-insert.ensures.items
