use Rattle.std.proofs.Common.{rules, ◌<◌, ◌≤◌, length}
use Rattle.reql_feeds.specs.Turn.{told, undone}
use Rattle.reql_feeds.proofs.Drafts.{draft_many, heard_none, heard_all}
use Rattle.reql_feeds.proofs.Hearings.{next_now, heard_next}
use Rattle.reql_feeds.proofs.drafting.hear_all.Goals as goal

pub loop-place-init : goal.loop-place-init
loop-place-init g c = heard_none g.F.Following.held g.F.Following.fits g.F.Following.brings g.F.Following.reads (told c.args.change.now) (g.F.Following.documents c.args.after.now) c.args.stamp c.args.entries.now c.args.shadows.now

pub bounds-shadows-place : goal.bounds-shadows-place
bounds-shadows-place g c =
    let many = draft_many g.F.Following.held c.args.entries.now c.args.shadows.now c.requires.draft in
    search (rules, many)

pub offset_bounds-shadows-place : goal.offset_bounds-shadows-place
offset_bounds-shadows-place g c =
    let many = draft_many g.F.Following.held c.args.entries.now c.args.shadows.now c.requires.draft in
    search (rules, many)

pub hear-requires-clause-fits : goal.hear-requires-clause-fits
hear-requires-clause-fits g c =
    let many = draft_many g.F.Following.held c.args.entries.now c.args.shadows.now c.requires.draft in
    let lt : c.loop-place.place < length c.args.entries.now = search rules in
    next_now g.F.Following.held g.F.Following.fits g.F.Following.brings g.F.Following.reads (told c.args.change.now) (g.F.Following.documents c.args.after.now) c.args.stamp
    (λ k. g.F.Following.fits k (undone (told c.args.change.now) (g.F.Following.documents c.args.after.now))) c.args.entries.now c.args.shadows.now c.loop-place.shadows c.loop-place.place c.index-entries-place.result c.index-shadows-place.result c.loop-place.invariant many lt c.index-entries-place.is c.requires.fits

pub hear-requires-clause-reads : goal.hear-requires-clause-reads
hear-requires-clause-reads g c =
    let many = draft_many g.F.Following.held c.args.entries.now c.args.shadows.now c.requires.draft in
    let lt : c.loop-place.place < length c.args.entries.now = search rules in
    next_now g.F.Following.held g.F.Following.fits g.F.Following.brings g.F.Following.reads (told c.args.change.now) (g.F.Following.documents c.args.after.now) c.args.stamp
    (λ k. g.F.Following.reads k c.args.after.now) c.args.entries.now c.args.shadows.now c.loop-place.shadows c.loop-place.place c.index-entries-place.result c.index-shadows-place.result c.loop-place.invariant many lt c.index-entries-place.is c.requires.reads

pub loop-place-preserved : goal.loop-place-preserved
loop-place-preserved g c =
    let many = draft_many g.F.Following.held c.args.entries.now c.args.shadows.now c.requires.draft in
    let lt : c.loop-place.place < length c.args.entries.now = search rules in
    heard_next g.F.Following.held g.F.Following.fits g.F.Following.brings g.F.Following.reads (told c.args.change.now) (g.F.Following.documents c.args.after.now) c.args.stamp
    c.args.entries.now c.args.shadows.now c.loop-place.shadows c.loop-place.place c.index-entries-place.result c.index-shadows-place.result c.hear.new.shadow c.loop-place.invariant many lt c.index-entries-place.is c.in_ok-hear.ensures

pub returns : goal.returns
returns g c =
    let end : length c.args.entries.now ≤ c.loop-place.place = search rules in
    heard_all g.F.Following.held g.F.Following.fits g.F.Following.brings g.F.Following.reads (told c.args.change.now) (g.F.Following.documents c.args.after.now) c.args.stamp
    c.args.entries.now c.args.shadows.now c.loop-place.shadows c.loop-place.place c.loop-place.invariant end
