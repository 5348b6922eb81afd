use Rattle.reql_open_cursors.proofs.Moves.{feed_goes}
use Rattle.reql_open_cursors.proofs.feeds.advance.Goals as goal

pub returns-in-Some : goal.returns-in-Some
returns-in-Some c x apart is =
    feed_goes c.args.token c.as_slice.result.now c.args.feeds.now.items c.step_at.new.feeds.items c.in-Some.place c.as_slice.ensures.value c.in-Some.ensures.none c.in-Some.ensures.some c.in-Some.ensures.there c.step_at.ensures x apart is
