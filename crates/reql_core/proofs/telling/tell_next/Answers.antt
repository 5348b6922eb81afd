use Rattle.reql_feeds.specs.Ahead.{all_ahead}
use Rattle.reql_feeds.specs.Record.{kept_in, records}
use Rattle.reql_feeds.specs.Turn.{told}
use Rattle.reql_core.proofs.Changes.{leads_to, fit_before, told_so, at_after}
use Rattle.reql_core.proofs.telling.tell_next.Goals as goal

pub tell-requires-clause-leads : goal.tell-requires-clause-leads
tell-requires-clause-leads g c =
    leads_to g.F.Following.documents g.met.F.Opening.sees c.feeds_laws.ensures.lead (told c.args.change.now) c.args.table.now c.in_ok-after.after c.changed.ensures.rising c.requires.comes c.in_ok-after.ensures.documents

pub tell-requires-clause-fits : goal.tell-requires-clause-fits
tell-requires-clause-fits g c =
    fit_before g.F.Following.documents g.met.F.Opening.sees c.feeds_laws.ensures.lead (told c.args.change.now) c.args.table.now c.in_ok-after.after c.changed.ensures.rising c.requires.comes c.in_ok-after.ensures.documents g.F.Following.fits
    (kept_in (all_ahead g.F.Following.held c.args.feeds.now c.args.draft)) c.requires.at.fit

pub returns-clause-told : goal.returns-clause-told
returns-clause-told g c =
    told_so g.F.Following.documents g.met.F.Opening.sees c.feeds_laws.ensures.lead (told c.args.change.now) c.args.table.now c.in_ok-after.after c.changed.ensures.rising c.requires.comes c.in_ok-after.ensures.documents c.args.stamp
    (records g.F.Following.held (all_ahead g.F.Following.held c.args.feeds.now c.in_ok-heard.heard)) (records g.F.Following.held (all_ahead g.F.Following.held c.args.feeds.now c.args.draft)) c.in_ok-heard.ensures.told

pub returns-clause-at : goal.returns-clause-at
returns-clause-at g c =
    at_after g.F.Following.held g.F.Following.fits g.F.Following.reads g.F.Following.documents g.met.F.Opening.sees g.met.F.Opening.stays c.args.feeds.now c.args.table.now c.in_ok-after.after c.args.draft c.in_ok-heard.heard
    c.requires.at c.in_ok-after.ensures.same c.in_ok-heard.ensures.draft c.in_ok-heard.ensures.fits c.in_ok-heard.ensures.reads
