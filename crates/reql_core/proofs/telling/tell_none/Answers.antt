use Rattle.reql_core.proofs.Untold.{at_untold, leads_untold}
use Rattle.reql_core.proofs.telling.tell_none.Goals as goal

pub returns-clause-at : goal.returns-clause-at
returns-clause-at g c =
    at_untold g.F.Following.held c.args.feeds.now c.in_ok-draft.draft c.requires.none c.in_ok-draft.ensures.same g.F.Following.fits g.F.Following.reads c.in_ok-after.after c.in_ok-draft.ensures.draft

pub returns-clause-leads : goal.returns-clause-leads
returns-clause-leads g c = λ stamp.
    leads_untold g.F.Following.held c.args.feeds.now c.in_ok-draft.draft c.requires.none c.in_ok-draft.ensures.same c.args.table.now c.in_ok-after.after stamp c.args.changes.now c.in_ok-after.ensures.documents c.in_ok-after.ensures.same
