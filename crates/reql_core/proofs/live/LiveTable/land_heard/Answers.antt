use Rattle.std.proofs.Common.{◌<◌, ◌+◌, ◌^◌, [], ◌∷◌, subst, sym}
use Rattle.reql_table.specs.Seen.{documents_of}
use Rattle.reql_write_spec.specs.Laws.{AllCome}
use Rattle.reql_feeds.specs.Record.{kept_in}
use Rattle.reql_feeds.specs.Turn.{told}
use Rattle.reql_core.specs.Live.{Live}
use Rattle.reql_core.proofs.Changes.{leads_to, fit_before}
use Rattle.reql_core.proofs.Written.{lives_one, leaves_one}
use Rattle.reql_core.proofs.live.LiveTable.land_heard.Goals as goal

pub tell_one-requires-clause-leads : goal.tell_one-requires-clause-leads
tell_one-requires-clause-leads g c =
    let come : AllCome (documents_of c.self.inside.moment.table) (told c.args.change.now ∷ []) =
    subst (λ (l : Live g.row.F.Denot). AllCome (documents_of l.moment.table) (told c.args.change.now ∷ [])) (sym c.self.view_is) c.requires.come in
    leads_to g.F.Following.documents g.met.F.Opening.sees c.feeds_laws.ensures.lead (told c.args.change.now) c.self.inside.moment.table c.in_ok-after.after c.changed.ensures.rising come.0.there c.in_ok-after.ensures.documents

pub tell_one-requires-clause-fits : goal.tell_one-requires-clause-fits
tell_one-requires-clause-fits g c =
    let come : AllCome (documents_of c.self.inside.moment.table) (told c.args.change.now ∷ []) =
    subst (λ (l : Live g.row.F.Denot). AllCome (documents_of l.moment.table) (told c.args.change.now ∷ [])) (sym c.self.view_is) c.requires.come in
    fit_before g.F.Following.documents g.met.F.Opening.sees c.feeds_laws.ensures.lead (told c.args.change.now) c.self.inside.moment.table c.in_ok-after.after c.changed.ensures.rising come.0.there c.in_ok-after.ensures.documents
    g.F.Following.fits (kept_in c.self.inside.feeds) c.self.invariant.fit

pub invariant_of-self-2 : goal.invariant_of-self-2
invariant_of-self-2 g c =
    let room : c.self.inside.moment.place + 1 < 2 ^ 64 = subst (λ (l : Live g.row.F.Denot). l.moment.place + 1 < 2 ^ 64) (sym c.self.view_is) c.requires.room in
    let less : c.self.inside.moment.stamp + 1 < 2 ^ 64 = subst (λ (l : Live g.row.F.Denot). l.moment.stamp + 1 < 2 ^ 64) (sym c.self.view_is) c.requires.stamp in
    lives_one g.F.Following.held g.F.Following.documents g.met.F.Opening.sees (record { moment = c.self.inside.moment; feeds = c.self.inside.feeds; shut = c.self.inside.shut; most = c.self.inside.most })
    (told c.args.change.now) c.in_ok-after.after c.tell_one.new.self c.in_ok-tell_one.ensures.told c.in_ok-after.ensures.same g.F.Following.fits g.F.Following.reads g.met.F.Opening.stays c.self.invariant
    c.in_ok-tell_one.ensures.fits c.in_ok-tell_one.ensures.reads room less

pub returns-clause-leaves : goal.returns-clause-leaves
returns-clause-leaves g c =
    let come : AllCome (documents_of c.self.inside.moment.table) (told c.args.change.now ∷ []) =
    subst (λ (l : Live g.row.F.Denot). AllCome (documents_of l.moment.table) (told c.args.change.now ∷ [])) (sym c.self.view_is) c.requires.come in
    rw (← c.self.view_is) (leaves_one g.F.Following.held g.F.Following.documents g.met.F.Opening.sees (record { moment = c.self.inside.moment; feeds = c.self.inside.feeds; shut = c.self.inside.shut; most = c.self.inside.most })
    (told c.args.change.now) c.in_ok-after.after c.tell_one.new.self c.in_ok-tell_one.ensures.told c.in_ok-after.ensures.same c.feeds_laws.ensures.lead c.changed.ensures.rising come.0.there c.in_ok-after.ensures.documents)
