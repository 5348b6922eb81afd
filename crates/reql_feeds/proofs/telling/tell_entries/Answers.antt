use Rattle.std.proofs.Common.{rules, ◌≡◌, ◌<◌, [], length, ap, refl, sym, subst, arith}
use Rattle.std.specs.List.{All, AllZip}
use Rattle.std.proofs.lemmas.List.{nil_from_length, length-map}
use Rattle.reql_feeds.specs.Keeps.{IsSized}
use Rattle.reql_feeds.specs.Seen.{sized, all_sized}
use Rattle.reql_feeds.specs.Told.{noticed, Turns}
use Rattle.reql_feeds.specs.Turn.{told}
use Rattle.reql_feeds.proofs.Halves.{Half, half_begin, half_next, half_more, half_end, next_sized, next_ready, ready_turns}
use Rattle.reql_feeds.proofs.telling.tell_entries.Goals as goal

pub loop-plan-init : goal.loop-plan-init
loop-plan-init g c =
    half_begin g.F.Following.held g.F.Following.fits g.F.Following.installs g.F.Following.brings g.F.Following.reads (told c.args.change.now) (g.F.Following.documents c.args.after.now) c.args.stamp c.prepare_all.new.entries c.in_ok-plans.plans.items c.in_ok-plans.ensures.planned

pub bounds-entries-place : goal.bounds-entries-place
bounds-entries-place g c =
    let h = subst (Half g.F.Following.held g.F.Following.fits g.F.Following.installs g.F.Following.brings g.F.Following.reads (told c.args.change.now) (g.F.Following.documents c.args.after.now) c.args.stamp c.prepare_all.new.entries c.loop-plan.entries) c.in-Some.ensures.items c.loop-plan.invariant in
    (half_next g.F.Following.held g.F.Following.fits g.F.Following.installs g.F.Following.brings g.F.Following.reads (told c.args.change.now) (g.F.Following.documents c.args.after.now) c.args.stamp c.prepare_all.new.entries c.loop-plan.entries c.pop.new.self.items c.in-Some.plan h).within

pub offset_bounds-entries-place : goal.offset_bounds-entries-place
offset_bounds-entries-place g c =
    let h = subst (Half g.F.Following.held g.F.Following.fits g.F.Following.installs g.F.Following.brings g.F.Following.reads (told c.args.change.now) (g.F.Following.documents c.args.after.now) c.args.stamp c.prepare_all.new.entries c.loop-plan.entries) c.in-Some.ensures.items c.loop-plan.invariant in
    let b : c.in-Some.plan.place < length c.prepare_all.new.entries = (half_next g.F.Following.held g.F.Following.fits g.F.Following.installs g.F.Following.brings g.F.Following.reads (told c.args.change.now) (g.F.Following.documents c.args.after.now) c.args.stamp c.prepare_all.new.entries c.loop-plan.entries c.pop.new.self.items c.in-Some.plan h).below in
    let same = ap length c.in_ok-plans.ensures.same in
    let low : c.in-Some.plan.place < length c.args.entries.now = omega (arith, b, same, length-map c.prepare_all.new.entries sized, length-map c.args.entries.now sized) in
    search (rules, low)

pub install_one-requires-clause-size : goal.install_one-requires-clause-size
install_one-requires-clause-size g c =
    let h = subst (Half g.F.Following.held g.F.Following.fits g.F.Following.installs g.F.Following.brings g.F.Following.reads (told c.args.change.now) (g.F.Following.documents c.args.after.now) c.args.stamp c.prepare_all.new.entries c.loop-plan.entries) c.in-Some.ensures.items c.loop-plan.invariant in
    let n = half_next g.F.Following.held g.F.Following.fits g.F.Following.installs g.F.Following.brings g.F.Following.reads (told c.args.change.now) (g.F.Following.documents c.args.after.now) c.args.stamp c.prepare_all.new.entries c.loop-plan.entries c.pop.new.self.items c.in-Some.plan h in
    next_sized g.F.Following.held g.F.Following.fits g.F.Following.installs g.F.Following.brings g.F.Following.reads (told c.args.change.now) (g.F.Following.documents c.args.after.now) c.args.stamp c.prepare_all.new.entries c.loop-plan.entries c.in-Some.plan c.index-entries-place.result n
    (subst (All (IsSized g.F.Following.held)) (sym c.in_ok-plans.ensures.same) c.requires.sizes)

pub install_one-requires-clause-step : goal.install_one-requires-clause-step
install_one-requires-clause-step g c =
    let h = subst (Half g.F.Following.held g.F.Following.fits g.F.Following.installs g.F.Following.brings g.F.Following.reads (told c.args.change.now) (g.F.Following.documents c.args.after.now) c.args.stamp c.prepare_all.new.entries c.loop-plan.entries) c.in-Some.ensures.items c.loop-plan.invariant in
    let n = half_next g.F.Following.held g.F.Following.fits g.F.Following.installs g.F.Following.brings g.F.Following.reads (told c.args.change.now) (g.F.Following.documents c.args.after.now) c.args.stamp c.prepare_all.new.entries c.loop-plan.entries c.pop.new.self.items c.in-Some.plan h in
    (next_ready g.F.Following.held g.F.Following.fits g.F.Following.installs g.F.Following.brings g.F.Following.reads (told c.args.change.now) (g.F.Following.documents c.args.after.now) c.args.stamp c.prepare_all.new.entries c.loop-plan.entries c.in-Some.plan c.index-entries-place.result n).step

pub install_one-requires-clause-room : goal.install_one-requires-clause-room
install_one-requires-clause-room g c =
    let h = subst (Half g.F.Following.held g.F.Following.fits g.F.Following.installs g.F.Following.brings g.F.Following.reads (told c.args.change.now) (g.F.Following.documents c.args.after.now) c.args.stamp c.prepare_all.new.entries c.loop-plan.entries) c.in-Some.ensures.items c.loop-plan.invariant in
    let n = half_next g.F.Following.held g.F.Following.fits g.F.Following.installs g.F.Following.brings g.F.Following.reads (told c.args.change.now) (g.F.Following.documents c.args.after.now) c.args.stamp c.prepare_all.new.entries c.loop-plan.entries c.pop.new.self.items c.in-Some.plan h in
    (next_ready g.F.Following.held g.F.Following.fits g.F.Following.installs g.F.Following.brings g.F.Following.reads (told c.args.change.now) (g.F.Following.documents c.args.after.now) c.args.stamp c.prepare_all.new.entries c.loop-plan.entries c.in-Some.plan c.index-entries-place.result n).room

pub loop-plan-preserved : goal.loop-plan-preserved
loop-plan-preserved g c =
    let h = subst (Half g.F.Following.held g.F.Following.fits g.F.Following.installs g.F.Following.brings g.F.Following.reads (told c.args.change.now) (g.F.Following.documents c.args.after.now) c.args.stamp c.prepare_all.new.entries c.loop-plan.entries) c.in-Some.ensures.items c.loop-plan.invariant in
    let n = half_next g.F.Following.held g.F.Following.fits g.F.Following.installs g.F.Following.brings g.F.Following.reads (told c.args.change.now) (g.F.Following.documents c.args.after.now) c.args.stamp c.prepare_all.new.entries c.loop-plan.entries c.pop.new.self.items c.in-Some.plan h in
    let ready = next_ready g.F.Following.held g.F.Following.fits g.F.Following.installs g.F.Following.brings g.F.Following.reads (told c.args.change.now) (g.F.Following.documents c.args.after.now) c.args.stamp c.prepare_all.new.entries c.loop-plan.entries c.in-Some.plan c.index-entries-place.result n in
    let e = c.install_one.ensures in
    half_more g.F.Following.held g.F.Following.fits g.F.Following.installs g.F.Following.brings g.F.Following.reads (told c.args.change.now) (g.F.Following.documents c.args.after.now) c.args.stamp c.prepare_all.new.entries c.loop-plan.entries c.pop.new.self.items c.in-Some.plan c.index-entries-place.result c.install_one.new.entry h n.within
    (ready_turns g.F.Following.held g.F.Following.fits g.F.Following.installs g.F.Following.brings g.F.Following.reads (told c.args.change.now) (g.F.Following.documents c.args.after.now) c.args.stamp _ c.install_one.new.entry c.in-Some.plan.prepared _ ready refl e.queued e.brought e.reads e.held e.number e.size)

pub returns-clause-turned : goal.returns-clause-turned
returns-clause-turned g c =
    let none : c.loop-plan.plans.items ≡ [] = nil_from_length _ (omega (arith, c.in_default.ensures.cases.0, c.loop-plan.plans.ok)) in
    let h = subst (Half g.F.Following.held g.F.Following.fits g.F.Following.installs g.F.Following.brings g.F.Following.reads (told c.args.change.now) (g.F.Following.documents c.args.after.now) c.args.stamp c.prepare_all.new.entries c.loop-plan.entries) none c.loop-plan.invariant in
    let all = half_end g.F.Following.held g.F.Following.fits g.F.Following.installs g.F.Following.brings g.F.Following.reads (told c.args.change.now) (g.F.Following.documents c.args.after.now) c.args.stamp c.prepare_all.new.entries c.loop-plan.entries h in
    subst (λ t. AllZip (Turns g.F.Following.held g.F.Following.fits g.F.Following.reads (noticed c.args.stamp (told c.args.change.now) (g.F.Following.documents c.args.after.now)) (g.F.Following.documents c.args.after.now)) t (all_sized c.loop-plan.entries)) c.in_ok-plans.ensures.same all
