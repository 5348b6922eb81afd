use Rattle.std.proofs.Common.{◌≡◌, List, ap, subst, ◌∙◌}
use Rattle.reql_feeds.specs.Keeps.{feeds_of}
use Rattle.reql_feeds.specs.Seen.{all_sized}
use Rattle.reql_feeds.specs.Shadows.{all_pending}
use Rattle.reql_feeds.specs.declared.entry.Entry.{Entry}
use Rattle.reql_feeds.specs.Ahead.{all_ahead, IsDraft}
use Rattle.reql_feeds.proofs.feeds.Feeds.draft.Goals as goal

pub returns-clause-draft : goal.returns-clause-draft
returns-clause-draft g c =
    let view = ap (λ (l : List (Entry g.row.F.Denot)). feeds_of (all_sized l)) c.deref.ensures.value ∙ c.self.view_is in
    subst (λ fs. IsDraft g.F.Following.held fs (all_pending c.in_ok-shadows.shadows.items)) view c.in_ok-shadows.ensures.draft

pub returns-clause-same : goal.returns-clause-same
returns-clause-same g c =
    let view = ap (λ (l : List (Entry g.row.F.Denot)). feeds_of (all_sized l)) c.deref.ensures.value ∙ c.self.view_is in
    subst (λ fs. all_ahead g.F.Following.held fs (all_pending c.in_ok-shadows.shadows.items) ≡ fs) view c.in_ok-shadows.ensures.same
