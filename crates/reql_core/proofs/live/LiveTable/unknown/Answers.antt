use Rattle.std.proofs.Common.{◌≡◌, ◌<◌, ◌+◌, ◌^◌, None, option_map, subst, sym}
use Rattle.reql_table_machine_spec.specs.Feeds.{find_feed, has_something}
use Rattle.reql_feeds.specs.Record.{records}
use Rattle.reql_core.specs.Live.{Live}
use Rattle.reql_core.proofs.Batches.{unknown}
use Rattle.reql_core.proofs.live.LiveTable.unknown.Goals as goal

pub returns : goal.returns
returns g c =
    let room : c.self.inside.moment.place + 1 < 2 ^ 64 = subst (λ (l : Live g.row.F.Denot). l.moment.place + 1 < 2 ^ 64) (sym c.self.view_is) c.requires.room in
    let none : option_map has_something (find_feed c.args.by c.args.feed (records g.F.Following.held c.self.inside.feeds)) ≡ None =
    subst (λ (l : Live g.row.F.Denot). option_map has_something (find_feed c.args.by c.args.feed (records g.F.Following.held l.feeds)) ≡ None) (sym c.self.view_is) c.requires.none in
    rw (← c.self.view_is) (unknown g.F.Following.held c.args.by c.args.feed c.args.max (record { moment = c.self.inside.moment; feeds = c.self.inside.feeds; shut = c.self.inside.shut; most = c.self.inside.most })
    c.if-self.false none room c.self.invariant.stamp)
