use Rattle.std.proofs.Common.{rules, ◌<◌, length}
use Rattle.reql_feeds.specs.Turn.{told, undone}
use Rattle.reql_feeds.proofs.Places.{kept_now, sized_now}
use Rattle.reql_feeds.proofs.Plans.{plan_next}
use Rattle.reql_feeds.proofs.telling.prepare_all.Goals as goal

pub plan_one-requires-clause-fits : goal.plan_one-requires-clause-fits
plan_one-requires-clause-fits g c =
    let lt : c.loop-place.place < length c.loop-place.entries = search rules in
    kept_now (λ k. g.F.Following.fits k (undone (told c.args.change.now) (g.F.Following.documents c.args.after.now))) c.loop-place.entries c.args.entries.now c.loop-place.place c.index-entries-place.result c.requires.fits c.loop-place.invariant.0 lt

pub plan_one-requires-clause-reads : goal.plan_one-requires-clause-reads
plan_one-requires-clause-reads g c =
    let lt : c.loop-place.place < length c.loop-place.entries = search rules in
    kept_now (λ k. g.F.Following.reads k c.args.after.now) c.loop-place.entries c.args.entries.now c.loop-place.place c.index-entries-place.result c.requires.reads c.loop-place.invariant.0 lt

pub returns-in_err-plan_one-clause-same : goal.returns-in_err-plan_one-clause-same
returns-in_err-plan_one-clause-same g c =
    let lt : c.loop-place.place < length c.loop-place.entries = search rules in
    sized_now c.loop-place.entries c.args.entries.now c.loop-place.place c.index-entries-place.result c.plan_one.new.entry c.loop-place.invariant.0 lt c.plan_one.ensures.same

pub loop-place-preserved : goal.loop-place-preserved
loop-place-preserved g c =
    let n = c.in_ok-plan_one.ensures.noted in
    let lt : c.loop-place.place < length c.loop-place.entries = search rules in (
      sized_now c.loop-place.entries c.args.entries.now c.loop-place.place c.index-entries-place.result c.plan_one.new.entry c.loop-place.invariant.0 lt c.plan_one.ensures.same,
      plan_next g.F.Following.held g.F.Following.fits g.F.Following.installs g.F.Following.brings (told c.args.change.now) (g.F.Following.documents c.args.after.now) c.loop-place.entries c.loop-place.place c.plan_one.new.entry n.prepared
          c.loop-place.plans.items c.plan_one.new.plans.items lt c.loop-place.invariant.1 n.answered n.noted,
    )
