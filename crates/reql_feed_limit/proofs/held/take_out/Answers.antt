use Rattle.std.proofs.Common.{map, ap, ◌∙◌}
use Rattle.reql_feed_limit.specs.Seen.{seen}
use Rattle.reql_feed_limit.proofs.Places.{seen_remove}
use Rattle.reql_feed_limit.proofs.held.take_out.Goals as goal

pub returns-in-Some-clause-items : goal.returns-in-Some-clause-items
returns-in-Some-clause-items c =
    rw c.in-Some.is (ap (map seen) c.remove_at.ensures.items ∙ seen_remove c.args.held.now.items c.in-Some.placed.place)
