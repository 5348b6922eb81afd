use Rattle.std.proofs.Common.{◌≡◌, ◌<◌, ◌+◌, ◌^◌, false, length, subst, sym}
use Rattle.reql_core.specs.Live.{Live}
use Rattle.reql_core.proofs.Written.{lives_unheard, leaves_unheard}
use Rattle.reql_core.proofs.live.LiveTable.land_unheard.Goals as goal

pub invariant_of-self-2 : goal.invariant_of-self-2
invariant_of-self-2 g c =
    let none : length c.self.inside.feeds ≡ 0 = subst (λ (l : Live g.row.F.Denot). length l.feeds ≡ 0) (sym c.self.view_is) c.requires.none in
    let room : c.self.inside.moment.place + 1 < 2 ^ 64 = subst (λ (l : Live g.row.F.Denot). l.moment.place + 1 < 2 ^ 64) (sym c.self.view_is) c.requires.room in
    let less : c.self.inside.moment.stamp + 1 < 2 ^ 64 = subst (λ (l : Live g.row.F.Denot). l.moment.stamp + 1 < 2 ^ 64) (sym c.self.view_is) c.requires.stamp in
    lives_unheard g.F.Following.held (record { moment = c.self.inside.moment; feeds = c.self.inside.feeds; shut = c.self.inside.shut; most = c.self.inside.most })
    c.apply.new.self none g.F.Following.fits g.F.Following.reads c.self.invariant room less

pub returns-clause-leaves : goal.returns-clause-leaves
returns-clause-leaves g c =
    let none : length c.self.inside.feeds ≡ 0 = subst (λ (l : Live g.row.F.Denot). length l.feeds ≡ 0) (sym c.self.view_is) c.requires.none in
    let alive : c.self.inside.shut ≡ false = subst (λ (l : Live g.row.F.Denot). l.shut ≡ false) (sym c.self.view_is) c.requires.alive in
    rw (← c.self.view_is) (leaves_unheard g.F.Following.held (record { moment = c.self.inside.moment; feeds = c.self.inside.feeds; shut = c.self.inside.shut; most = c.self.inside.most })
    c.apply.new.self none c.args.change.now c.in_ok-apply.ensures.documents c.in_ok-apply.ensures.indexes alive)
