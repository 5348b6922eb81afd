use Rattle.reql_plan.proofs.feeds.ask_feed.Goals as goal

pub returns : goal.returns
returns g c = rw (c.in_ok-points.ensures, c.in_ok-spec.ensures) at c.asks.ensures
