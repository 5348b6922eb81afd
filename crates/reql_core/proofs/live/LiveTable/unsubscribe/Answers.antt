use Rattle.std.proofs.Common.{◌<◌, ◌+◌, ◌^◌, ◌∙◌, subst, sym}
use Rattle.reql_feeds.specs.Record.{closed}
use Rattle.reql_core.specs.Live.{Live}
use Rattle.reql_core.proofs.Commands.{closed_it, none_gone, none_known}
use Rattle.reql_core.proofs.Keeping.{lives_moved, lives_left}
use Rattle.reql_core.proofs.live.LiveTable.unsubscribe.Goals as goal

pub invariant_of-self : goal.invariant_of-self
invariant_of-self g c =
    let room : c.self.inside.moment.place + 1 < 2 ^ 64 = subst (λ (l : Live g.row.F.Denot). l.moment.place + 1 < 2 ^ 64) (sym c.self.view_is) c.requires.room in
    rw c.close.ensures.closed (lives_moved g.F.Following.fits g.F.Following.reads (record { moment = c.self.inside.moment; feeds = closed c.args.by c.args.feed c.self.inside.feeds; shut = c.self.inside.shut; most = c.self.inside.most }) (lives_left g.F.Following.fits g.F.Following.reads c.args.by c.args.feed (record { moment = c.self.inside.moment; feeds = c.self.inside.feeds; shut = c.self.inside.shut; most = c.self.inside.most }) c.self.invariant) room)

pub returns-then-close : goal.returns-then-close
returns-then-close g c =
    let room : c.self.inside.moment.place + 1 < 2 ^ 64 = subst (λ (l : Live g.row.F.Denot). l.moment.place + 1 < 2 ^ 64) (sym c.self.view_is) c.requires.room in
    rw (← c.self.view_is, c.close.ensures.closed) (closed_it g.F.Following.held c.args.by c.args.feed (record { moment = c.self.inside.moment; feeds = c.self.inside.feeds; shut = c.self.inside.shut; most = c.self.inside.most }) (sym c.close.ensures.there ∙ c.if-close.true) room c.self.invariant.stamp)

pub invariant_of-self-then-self : goal.invariant_of-self-then-self
invariant_of-self-then-self g c = rw c.close.ensures.closed (lives_left g.F.Following.fits g.F.Following.reads c.args.by c.args.feed (record { moment = c.self.inside.moment; feeds = c.self.inside.feeds; shut = c.self.inside.shut; most = c.self.inside.most }) c.self.invariant)

pub returns-then-self : goal.returns-then-self
returns-then-self g c = rw (← c.self.view_is, c.close.ensures.closed) (none_gone g.F.Following.held c.args.by c.args.feed (record { moment = c.self.inside.moment; feeds = c.self.inside.feeds; shut = c.self.inside.shut; most = c.self.inside.most }) (sym c.close.ensures.there ∙ c.if-close.false) c.if-self.true)

pub invariant_of-self-2 : goal.invariant_of-self-2
invariant_of-self-2 g c =
    let room : c.self.inside.moment.place + 1 < 2 ^ 64 = subst (λ (l : Live g.row.F.Denot). l.moment.place + 1 < 2 ^ 64) (sym c.self.view_is) c.requires.room in
    rw c.close.ensures.closed (lives_moved g.F.Following.fits g.F.Following.reads (record { moment = c.self.inside.moment; feeds = closed c.args.by c.args.feed c.self.inside.feeds; shut = c.self.inside.shut; most = c.self.inside.most }) (lives_left g.F.Following.fits g.F.Following.reads c.args.by c.args.feed (record { moment = c.self.inside.moment; feeds = c.self.inside.feeds; shut = c.self.inside.shut; most = c.self.inside.most }) c.self.invariant) room)

pub returns : goal.returns
returns g c =
    let room : c.self.inside.moment.place + 1 < 2 ^ 64 = subst (λ (l : Live g.row.F.Denot). l.moment.place + 1 < 2 ^ 64) (sym c.self.view_is) c.requires.room in
    rw (← c.self.view_is, c.close.ensures.closed) (none_known g.F.Following.held c.args.by c.args.feed (record { moment = c.self.inside.moment; feeds = c.self.inside.feeds; shut = c.self.inside.shut; most = c.self.inside.most }) (sym c.close.ensures.there ∙ c.if-close.false) c.if-self.false room c.self.invariant.stamp)
