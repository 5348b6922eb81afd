use Rattle.std.proofs.Common.{None, sym}
use Rattle.std.proofs.lemmas.List.{append-nil}
use Rattle.reql_feeds.specs.Turn.{told}
use Rattle.reql_feeds.proofs.Apart.{passed_over}
use Rattle.reql_feeds.proofs.telling.plan_one.Goals as goal

pub returns-then-passes_over-clause-noted : goal.returns-then-passes_over-clause-noted
returns-then-passes_over-clause-noted g c =
    let p = passed_over g.F.Following.held g.F.Following.fits g.F.Following.only g.met.F.Following.of_one c.args.entry.now.kept (told c.args.change.now) (g.F.Following.documents c.args.after.now) c.passes_over.result c.passes_over.ensures c.if-passes_over.true c.requires.leads c.requires.fits in
    record { prepared = None; answered = record { none = p.none; stays = p.stays }; noted = sym (append-nil c.args.plans.now.items) }

pub returns-clause-noted : goal.returns-clause-noted
returns-clause-noted g c = record { prepared = c.in_ok-prepared.prepared; answered = c.in_ok-prepared.ensures.answered; noted = c.in_ok-note.ensures }
