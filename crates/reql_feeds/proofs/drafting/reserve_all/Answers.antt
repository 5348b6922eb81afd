use Rattle.std.proofs.Common.{rules, ◌<◌, length}
use Rattle.reql_feeds.proofs.Places.{sized_now, roomy_one}
use Rattle.reql_feeds.proofs.drafting.reserve_all.Goals as goal

pub returns-in_err-reserve_one-clause-same : goal.returns-in_err-reserve_one-clause-same
returns-in_err-reserve_one-clause-same g c =
    let lt : c.loop-place.place < length c.loop-place.entries = search rules in
    sized_now c.loop-place.entries c.args.entries.now c.loop-place.place c.index-entries-place.result c.reserve_one.new.entry c.loop-place.invariant.0 lt c.reserve_one.ensures.same

pub loop-place-preserved : goal.loop-place-preserved
loop-place-preserved g c =
    let lt : c.loop-place.place < length c.loop-place.entries = search rules in
    let low : c.loop-place.place < length c.args.shadows.now = search rules in (
      sized_now c.loop-place.entries c.args.entries.now c.loop-place.place c.index-entries-place.result c.reserve_one.new.entry c.loop-place.invariant.0 lt c.reserve_one.ensures.same,
      roomy_one c.loop-place.entries c.args.shadows.now c.loop-place.place c.reserve_one.new.entry c.index-shadows-place.result c.loop-place.invariant.1 lt low c.index-shadows-place.is c.in_ok-reserve_one.ensures.room,
    )
