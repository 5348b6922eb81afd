use Rattle.std.proofs.Common.{◌≡◌}
use Rattle.reql_feeds.specs.Seen.{all_sized}
use Rattle.std.specs.Prelude.{slice_set}
use Rattle.reql_feeds.proofs.Served.{none_given, none_left, some_given, some_left, left_keeps, refused, refused_keeps}
use Rattle.reql_feeds.proofs.Whole.{on_err}
use Rattle.reql_feeds.proofs.taking.take_of.Goals as goal

pub returns-in_default-clause-given : goal.returns-in_default-clause-given
returns-in_default-clause-given g c = none_given g.F.Following.held c.args.owner c.args.number c.args.entries.now c.args.max c.in_default.ensures.none

pub returns-in_default-clause-left : goal.returns-in_default-clause-left
returns-in_default-clause-left g c = none_left g.F.Following.held c.args.owner c.args.number c.args.entries.now c.args.max c.in_default.ensures.none

pub returns-in_err-taken-clause-same : goal.returns-in_err-taken-clause-same
returns-in_err-taken-clause-same g c =
    on_err c.from_residual.result (all_sized (slice_set c.args.entries.now c.in-Some.place c.take_entry.new.entry) ≡ all_sized c.args.entries.now)
    (refused g.F.Following.held c.args.owner c.args.number c.args.entries.now c.in-Some.place c.requires c.in-Some.ensures.none c.in-Some.ensures.some c.index-entries-place.result c.take_entry.new.entry c.in_err-taken.ensures.left)

pub returns-in_err-taken-clause-keeps : goal.returns-in_err-taken-clause-keeps
returns-in_err-taken-clause-keeps g c =
    refused_keeps g.F.Following.held c.args.owner c.args.number c.args.entries.now c.in-Some.place c.requires c.in-Some.ensures.none c.in-Some.ensures.some c.index-entries-place.result c.take_entry.new.entry c.in_err-taken.ensures.left

pub returns-clause-given : goal.returns-clause-given
returns-clause-given g c =
    some_given g.F.Following.held c.args.owner c.args.number c.args.entries.now c.in-Some.place c.requires c.in-Some.ensures.none c.in-Some.ensures.some c.index-entries-place.result c.args.max c.in_ok-taken.taken c.in_ok-taken.ensures.batch

pub returns-clause-left : goal.returns-clause-left
returns-clause-left g c =
    some_left g.F.Following.held c.args.owner c.args.number c.args.entries.now c.in-Some.place c.requires c.in-Some.ensures.none c.in-Some.ensures.some c.index-entries-place.result c.take_entry.new.entry c.args.max c.in_ok-taken.ensures.left

pub returns-clause-keeps : goal.returns-clause-keeps
returns-clause-keeps g c =
    left_keeps g.F.Following.held c.args.owner c.args.number c.args.entries.now c.in-Some.place c.requires c.in-Some.ensures.none c.in-Some.ensures.some c.index-entries-place.result c.take_entry.new.entry c.args.max c.in_ok-taken.ensures.left
