use Rattle.std.proofs.Common.{◌<◌, ◌+◌, ◌^◌, subst, sym}
use Rattle.reql_core.specs.Live.{Live}
use Rattle.reql_core.proofs.Batches.{lives_taken}
use Rattle.reql_core.proofs.Keeping.{lives_moved}
use Rattle.reql_core.proofs.live.LiveTable.batch.Goals as goal

pub invariant_of-self-2 : goal.invariant_of-self-2
invariant_of-self-2 g c =
    let room : c.self.inside.moment.place + 1 < 2 ^ 64 = subst (λ (l : Live g.row.F.Denot). l.moment.place + 1 < 2 ^ 64) (sym c.self.view_is) c.requires.room in
    lives_moved g.F.Following.fits g.F.Following.reads (record { moment = c.self.inside.moment; feeds = c.take.new.self; shut = c.self.inside.shut; most = c.self.inside.most })
    (lives_taken g.F.Following.held g.F.Following.fits g.F.Following.reads c.args.by c.args.feed c.args.max (record { moment = c.self.inside.moment; feeds = c.self.inside.feeds; shut = c.self.inside.shut; most = c.self.inside.most })
    c.take.new.self c.take.ensures.kept c.in_ok-taken.ensures.left c.self.invariant) room
