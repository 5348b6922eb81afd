use Rattle.reql_open_cursors.proofs.Closing.{feed_taken, others_left}
use Rattle.reql_open_cursors.proofs.feeds.take_first.Goals as goal

pub returns-in-Some-clause-taken : goal.returns-in-Some-clause-taken
returns-in-Some-clause-taken c =
    feed_taken c.args.token c.as_slice.result.now c.args.feeds.now.items c.in-Some.place c.take_at.result c.as_slice.ensures.value c.take_at.ensures.taken c.in-Some.ensures.there

pub returns-in-Some-clause-left : goal.returns-in-Some-clause-left
returns-in-Some-clause-left c =
    others_left c.args.token c.as_slice.result.now c.args.feeds.now.items c.take_at.new.feeds.items c.in-Some.place c.as_slice.ensures.value c.in-Some.ensures.none c.in-Some.ensures.some c.take_at.ensures.left
