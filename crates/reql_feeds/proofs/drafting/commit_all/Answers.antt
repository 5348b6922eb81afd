use Rattle.std.proofs.Common.{rules, ◌≡◌, ◌<◌, [], length, sym, subst, arith}
use Rattle.std.proofs.lemmas.List.{nil_from_length}
use Rattle.std.specs.List.{All}
use Rattle.reql_feeds.specs.Committing.{HaveRoom}
use Rattle.reql_feeds.specs.Keeps.{IsSized}
use Rattle.reql_feeds.specs.Seen.{all_sized}
use Rattle.reql_feeds.proofs.Commits.{same_many, same_draft, begins, ends, ends_sized, turn_before, turn_within, turn_sized, turn_asked, turn_room, turn_lands}
use Rattle.reql_feeds.proofs.Drafts.{draft_many}
use Rattle.reql_feeds.proofs.Landings.{Landing}
use Rattle.reql_feeds.proofs.Whole.{on_err}
use Rattle.reql_feeds.proofs.drafting.commit_all.Goals as goal

pub reserve_all-requires : goal.reserve_all-requires
reserve_all-requires g c = let many = draft_many g.F.Following.held c.args.entries.now c.args.shadows.items c.requires.draft in search (rules, many)

pub loop-shadow-init : goal.loop-shadow-init
loop-shadow-init g c = begins g.F.Following.held c.reserve_all.new.entries c.args.entries.now c.args.shadows.items c.in_ok-reserve_all.ensures.same c.requires.draft

pub bounds-entries-place : goal.bounds-entries-place
bounds-entries-place g c =
    let l = subst (Landing g.F.Following.held c.reserve_all.new.entries c.loop-shadow.entries c.args.shadows.items) c.in-Some.ensures.items c.loop-shadow.invariant in
    let at : c.len-place.result ≡ length c.pop.new.self.items = search rules in
    turn_within g.F.Following.held c.reserve_all.new.entries c.loop-shadow.entries c.args.shadows.items c.pop.new.self.items c.in-Some.shadow c.len-place.result l at

pub offset_bounds-entries-place : goal.offset_bounds-entries-place
offset_bounds-entries-place g c =
    let l = subst (Landing g.F.Following.held c.reserve_all.new.entries c.loop-shadow.entries c.args.shadows.items) c.in-Some.ensures.items c.loop-shadow.invariant in
    let at : c.len-place.result ≡ length c.pop.new.self.items = search rules in
    let b = turn_before g.F.Following.held c.reserve_all.new.entries c.loop-shadow.entries c.args.shadows.items c.pop.new.self.items c.in-Some.shadow c.len-place.result l at in
    let many = same_many g.F.Following.held c.reserve_all.new.entries c.args.entries.now c.in_ok-reserve_all.ensures.same in
    let low : c.len-place.result < length c.args.entries.now = omega (arith, b, many) in
    search (rules, low)

pub commit_one-requires-clause-size : goal.commit_one-requires-clause-size
commit_one-requires-clause-size g c =
    let l = subst (Landing g.F.Following.held c.reserve_all.new.entries c.loop-shadow.entries c.args.shadows.items) c.in-Some.ensures.items c.loop-shadow.invariant in
    let at : c.len-place.result ≡ length c.pop.new.self.items = search rules in
    turn_sized g.F.Following.held c.reserve_all.new.entries c.loop-shadow.entries c.args.shadows.items c.pop.new.self.items c.in-Some.shadow c.len-place.result l at c.index-entries-place.result (subst (All (IsSized g.F.Following.held)) (sym c.in_ok-reserve_all.ensures.same) c.requires.sizes)

pub commit_one-requires-clause-asked : goal.commit_one-requires-clause-asked
commit_one-requires-clause-asked g c =
    let l = subst (Landing g.F.Following.held c.reserve_all.new.entries c.loop-shadow.entries c.args.shadows.items) c.in-Some.ensures.items c.loop-shadow.invariant in
    let at : c.len-place.result ≡ length c.pop.new.self.items = search rules in
    turn_asked g.F.Following.held c.reserve_all.new.entries c.loop-shadow.entries c.args.shadows.items c.pop.new.self.items c.in-Some.shadow c.len-place.result l at c.index-entries-place.result
    (same_draft g.F.Following.held c.reserve_all.new.entries c.args.entries.now c.args.shadows.items c.in_ok-reserve_all.ensures.same c.requires.draft)

pub commit_one-requires-clause-room : goal.commit_one-requires-clause-room
commit_one-requires-clause-room g c =
    let l = subst (Landing g.F.Following.held c.reserve_all.new.entries c.loop-shadow.entries c.args.shadows.items) c.in-Some.ensures.items c.loop-shadow.invariant in
    let at : c.len-place.result ≡ length c.pop.new.self.items = search rules in
    turn_room g.F.Following.held c.reserve_all.new.entries c.loop-shadow.entries c.args.shadows.items c.pop.new.self.items c.in-Some.shadow c.len-place.result l at c.index-entries-place.result (subst (HaveRoom c.reserve_all.new.entries) c.deref.ensures.value c.in_ok-reserve_all.ensures.room)

pub loop-shadow-preserved : goal.loop-shadow-preserved
loop-shadow-preserved g c =
    let l = subst (Landing g.F.Following.held c.reserve_all.new.entries c.loop-shadow.entries c.args.shadows.items) c.in-Some.ensures.items c.loop-shadow.invariant in
    let at : c.len-place.result ≡ length c.pop.new.self.items = search rules in
    turn_lands g.F.Following.held c.reserve_all.new.entries c.loop-shadow.entries c.args.shadows.items c.pop.new.self.items c.in-Some.shadow c.len-place.result l at c.index-entries-place.result c.commit_one.new.entry c.commit_one.ensures.feed c.commit_one.ensures.size

pub returns-clause-feeds : goal.returns-clause-feeds
returns-clause-feeds g c =
    let none : c.loop-shadow.shadows.items ≡ [] = nil_from_length _ (omega (arith, c.in_default.ensures.cases.0, c.loop-shadow.shadows.ok)) in
    let l = subst (Landing g.F.Following.held c.reserve_all.new.entries c.loop-shadow.entries c.args.shadows.items) none c.loop-shadow.invariant in
    ends g.F.Following.held c.reserve_all.new.entries c.args.entries.now c.loop-shadow.entries c.args.shadows.items c.in_ok-reserve_all.ensures.same l

pub returns-clause-sizes : goal.returns-clause-sizes
returns-clause-sizes g c =
    let none : c.loop-shadow.shadows.items ≡ [] = nil_from_length _ (omega (arith, c.in_default.ensures.cases.0, c.loop-shadow.shadows.ok)) in
    let l = subst (Landing g.F.Following.held c.reserve_all.new.entries c.loop-shadow.entries c.args.shadows.items) none c.loop-shadow.invariant in
    ends_sized g.F.Following.held c.reserve_all.new.entries c.args.entries.now c.loop-shadow.entries c.args.shadows.items c.in_ok-reserve_all.ensures.same l c.requires.draft c.requires.sizes

pub returns-in_err-reserve_all-clause-same : goal.returns-in_err-reserve_all-clause-same
returns-in_err-reserve_all-clause-same g c = on_err c.from_residual.result (all_sized c.reserve_all.new.entries ≡ all_sized c.args.entries.now) c.in_err-reserve_all.ensures.same
