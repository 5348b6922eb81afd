use Rattle.std.proofs.Common.{None, refl, sym, subst}
use Rattle.reql_feeds.specs.Seen.{seen}
use Rattle.reql_feeds.specs.Shadows.{pending}
use Rattle.reql_feeds.specs.Turn.{told, undone}
use Rattle.reql_feeds.proofs.Apart.{passed_over}
use Rattle.reql_feeds.proofs.Hearings.{none_heard, some_heard}
use Rattle.reql_feeds.proofs.shadow.hear.Goals as goal

pub returns-then-passes_over : goal.returns-then-passes_over
returns-then-passes_over g c =
    let fits = subst (λ k. g.F.Following.fits k (undone (told c.args.change.now) (g.F.Following.documents c.args.after.now))) (sym c.current-kept.ensures) c.requires.fits in
    let p = passed_over g.F.Following.held g.F.Following.fits g.F.Following.only g.met.F.Following.of_one c.current-kept.result.now (told c.args.change.now) (g.F.Following.documents c.args.after.now) c.passes_over.result c.passes_over.ensures c.if-passes_over.true c.requires.leads fits in
    none_heard g.F.Following.held g.F.Following.fits g.F.Following.brings g.F.Following.reads (told c.args.change.now) (g.F.Following.documents c.args.after.now) c.args.stamp (seen c.args.entry.now) (pending c.args.shadow.now) c.current-kept.result.now None
    c.current-kept.ensures refl (sym p.none) p.stays

pub returns-in-None : goal.returns-in-None
returns-in-None g c =
    none_heard g.F.Following.held g.F.Following.fits g.F.Following.brings g.F.Following.reads (told c.args.change.now) (g.F.Following.documents c.args.after.now) c.args.stamp (seen c.args.entry.now) (pending c.args.shadow.now) c.current-kept.result.now c.in_ok-prepare.field-0
    c.current-kept.ensures c.in-None.is c.in_ok-prepare.ensures.items c.in_ok-prepare.ensures.stays

pub returns-in_ok-follow-in-Some : goal.returns-in_ok-follow-in-Some
returns-in_ok-follow-in-Some g c =
    some_heard g.F.Following.held g.F.Following.fits g.F.Following.brings g.F.Following.reads (told c.args.change.now) (g.F.Following.documents c.args.after.now) c.args.stamp (seen c.args.entry.now) (pending c.args.shadow.now) (pending c.follow.new.shadow) c.current-kept.result.now
    c.in_ok-prepare.field-0 c.in-Some.prepared c.current-kept.ensures c.in-Some.is c.in_ok-prepare.ensures.items c.in_ok-prepare.ensures.brings c.in_ok-follow-in-Some.ensures
