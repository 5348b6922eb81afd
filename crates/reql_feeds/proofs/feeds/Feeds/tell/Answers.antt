use Rattle.std.proofs.Common.{◌≡◌, List, length, ap, ◌∙◌, arith}
use Rattle.std.proofs.lemmas.List.{with_items_is}
use Rattle.reql_feeds.specs.Keeps.{feeds_of}
use Rattle.reql_feeds.specs.Seen.{all_sized}
use Rattle.reql_feeds.specs.Shadows.{all_pending}
use Rattle.reql_feeds.specs.declared.entry.Entry.{Entry}
use Rattle.reql_feeds.specs.declared.shadow.Shadow.{Shadow}
use Rattle.reql_feeds.specs.Ahead.{all_ahead, IsDraft}
use Rattle.reql_feeds.specs.Record.{kept_in, AllFit}
use Rattle.reql_feeds.specs.Told.{noticed}
use Rattle.reql_feeds.specs.Turn.{told, undone}
use Rattle.reql_feeds.proofs.Tells.{unseen, next_draft, next_told, next_fits, next_reads}
use Rattle.reql_feeds.proofs.feeds.Feeds.tell.Goals as goal

pub hear_all-requires-clause-draft : goal.hear_all-requires-clause-draft
hear_all-requires-clause-draft g c =
    let view = ap (λ (l : List (Entry g.row.F.Denot)). feeds_of (all_sized l)) c.deref.ensures.value ∙ c.self.view_is in
    let shows = ap (λ (l : List (Shadow g.row.F.Denot)). all_pending l) c.deref_mut.ensures.value ∙ c.draft.view_is in
    unseen c.deref.result.now c.deref_mut.result.now c.args.self.now c.args.draft view shows (λ fs ps. IsDraft g.F.Following.held fs ps) c.requires.draft

pub hear_all-requires-clause-fits : goal.hear_all-requires-clause-fits
hear_all-requires-clause-fits g c =
    let view = ap (λ (l : List (Entry g.row.F.Denot)). feeds_of (all_sized l)) c.deref.ensures.value ∙ c.self.view_is in
    let shows = ap (λ (l : List (Shadow g.row.F.Denot)). all_pending l) c.deref_mut.ensures.value ∙ c.draft.view_is in
    unseen c.deref.result.now c.deref_mut.result.now c.args.self.now c.args.draft view shows (λ fs ps. AllFit g.F.Following.fits (undone (told c.args.change.now) (g.F.Following.documents c.args.after.now)) (kept_in (all_ahead g.F.Following.held fs ps))) c.requires.fits

pub hear_all-requires-clause-reads : goal.hear_all-requires-clause-reads
hear_all-requires-clause-reads g c =
    let view = ap (λ (l : List (Entry g.row.F.Denot)). feeds_of (all_sized l)) c.deref.ensures.value ∙ c.self.view_is in
    let shows = ap (λ (l : List (Shadow g.row.F.Denot)). all_pending l) c.deref_mut.ensures.value ∙ c.draft.view_is in
    unseen c.deref.result.now c.deref_mut.result.now c.args.self.now c.args.draft view shows (λ fs ps. AllFit g.F.Following.reads c.args.after.now (kept_in (all_ahead g.F.Following.held fs ps))) c.requires.reads

pub returns-clause-draft : goal.returns-clause-draft
returns-clause-draft g c =
    let view = ap (λ (l : List (Entry g.row.F.Denot)). feeds_of (all_sized l)) c.deref.ensures.value ∙ c.self.view_is in
    let shows = ap (λ (l : List (Shadow g.row.F.Denot)). all_pending l) c.deref_mut.ensures.value ∙ c.draft.view_is in
    let many : length c.hear_all.new.shadows ≡ c.draft.inside.shadows.len = omega (arith, c.hear_all.auto.shadows, c.deref_mut.ensures.len) in
    let is = with_items_is c.draft.inside.shadows c.hear_all.new.shadows many in
    next_draft c.deref.result.now c.deref_mut.result.now c.args.self.now c.args.draft view shows g.F.Following.held g.F.Following.fits g.F.Following.reads (noticed c.args.stamp (told c.args.change.now) (g.F.Following.documents c.args.after.now)) (g.F.Following.documents c.args.after.now) c.hear_all.new.shadows is c.in_ok-hear_all.ensures c.requires.draft

pub returns-clause-told : goal.returns-clause-told
returns-clause-told g c =
    let view = ap (λ (l : List (Entry g.row.F.Denot)). feeds_of (all_sized l)) c.deref.ensures.value ∙ c.self.view_is in
    let shows = ap (λ (l : List (Shadow g.row.F.Denot)). all_pending l) c.deref_mut.ensures.value ∙ c.draft.view_is in
    let many : length c.hear_all.new.shadows ≡ c.draft.inside.shadows.len = omega (arith, c.hear_all.auto.shadows, c.deref_mut.ensures.len) in
    let is = with_items_is c.draft.inside.shadows c.hear_all.new.shadows many in
    next_told c.deref.result.now c.deref_mut.result.now c.args.self.now c.args.draft view shows g.F.Following.held g.F.Following.fits g.F.Following.reads (noticed c.args.stamp (told c.args.change.now) (g.F.Following.documents c.args.after.now)) (g.F.Following.documents c.args.after.now) c.hear_all.new.shadows is c.in_ok-hear_all.ensures c.requires.draft

pub returns-clause-fits : goal.returns-clause-fits
returns-clause-fits g c =
    let view = ap (λ (l : List (Entry g.row.F.Denot)). feeds_of (all_sized l)) c.deref.ensures.value ∙ c.self.view_is in
    let shows = ap (λ (l : List (Shadow g.row.F.Denot)). all_pending l) c.deref_mut.ensures.value ∙ c.draft.view_is in
    let many : length c.hear_all.new.shadows ≡ c.draft.inside.shadows.len = omega (arith, c.hear_all.auto.shadows, c.deref_mut.ensures.len) in
    let is = with_items_is c.draft.inside.shadows c.hear_all.new.shadows many in
    next_fits c.deref.result.now c.deref_mut.result.now c.args.self.now c.args.draft view shows g.F.Following.held g.F.Following.fits g.F.Following.reads (noticed c.args.stamp (told c.args.change.now) (g.F.Following.documents c.args.after.now)) (g.F.Following.documents c.args.after.now) c.hear_all.new.shadows is c.in_ok-hear_all.ensures c.requires.draft

pub returns-clause-reads : goal.returns-clause-reads
returns-clause-reads g c =
    let view = ap (λ (l : List (Entry g.row.F.Denot)). feeds_of (all_sized l)) c.deref.ensures.value ∙ c.self.view_is in
    let shows = ap (λ (l : List (Shadow g.row.F.Denot)). all_pending l) c.deref_mut.ensures.value ∙ c.draft.view_is in
    let many : length c.hear_all.new.shadows ≡ c.draft.inside.shadows.len = omega (arith, c.hear_all.auto.shadows, c.deref_mut.ensures.len) in
    let is = with_items_is c.draft.inside.shadows c.hear_all.new.shadows many in
    next_reads c.deref.result.now c.deref_mut.result.now c.args.self.now c.args.draft view shows g.F.Following.held g.F.Following.fits g.F.Following.reads (noticed c.args.stamp (told c.args.change.now) (g.F.Following.documents c.args.after.now)) (g.F.Following.documents c.args.after.now) c.hear_all.new.shadows is c.in_ok-hear_all.ensures c.requires.draft
