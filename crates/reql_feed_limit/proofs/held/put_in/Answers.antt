use Rattle.std.proofs.Common.{map, ap, ◌∙◌}
use Rattle.reql_feed_limit.specs.Seen.{seen}
use Rattle.reql_feed_limit.proofs.Places.{seen_insert}
use Rattle.reql_feed_limit.proofs.held.put_in.Goals as goal

pub returns-in-Some-clause-items : goal.returns-in-Some-clause-items
returns-in-Some-clause-items c =
    rw c.in-Some.is (ap (map seen) c.insert_at.ensures.items ∙ seen_insert c.args.held.now.items c.in-Some.field-0.place c.in-Some.field-0.element)
