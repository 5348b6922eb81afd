use Rattle.std.proofs.Common.{rules, ◌≡◌, ◌<◌, ◌+◌, ◌^◌, subst, sym}
use Rattle.reql_feeds.specs.Ahead.{all_ahead}
use Rattle.reql_core.specs.Live.{Live}
use Rattle.reql_core.specs.Writing.{AreAt}
use Rattle.reql_core.proofs.Written.{lives_landed}
use Rattle.reql_core.proofs.live.LiveTable.become_so.Goals as goal

pub invariant_of-self-2 : goal.invariant_of-self-2
invariant_of-self-2 g c =
    let room : c.self.inside.moment.place + 1 < 2 ^ 64 = subst (λ (l : Live g.row.F.Denot). l.moment.place + 1 < 2 ^ 64) (sym c.self.view_is) c.requires.room in
    let at : AreAt g.F.Following.held g.F.Following.fits g.F.Following.reads c.self.inside.feeds c.args.table c.args.draft =
    subst (λ (l : Live g.row.F.Denot). AreAt g.F.Following.held g.F.Following.fits g.F.Following.reads l.feeds c.args.table c.args.draft) (sym c.self.view_is) c.requires.at in
    let is : c.commit.new.self ≡ all_ahead g.F.Following.held c.self.inside.feeds c.args.draft = search rules in
    let less : c.args.stamp < 2 ^ 64 = search rules in
    rw is (lives_landed g.F.Following.held g.F.Following.fits g.F.Following.reads (record { moment = c.self.inside.moment; feeds = c.self.inside.feeds; shut = c.self.inside.shut; most = c.self.inside.most }) c.args.table c.args.stamp c.args.draft c.self.invariant at room less)
