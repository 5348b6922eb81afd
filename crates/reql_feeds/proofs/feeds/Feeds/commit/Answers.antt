use Rattle.std.proofs.Common.{◌≡◌, List, length, ap, sym, subst, ◌∙◌, arith}
use Rattle.std.proofs.lemmas.List.{with_items_is}
use Rattle.reql_feeds.specs.Keeps.{feeds_of, Keeps}
use Rattle.reql_feeds.specs.Seen.{all_sized}
use Rattle.reql_feeds.specs.declared.entry.Entry.{Entry}
use Rattle.reql_feeds.specs.Shadows.{all_pending}
use Rattle.reql_feeds.proofs.Whole.{commit_keeps, commit_left}
use Rattle.reql_feeds.proofs.feeds.Feeds.commit.Goals as goal

pub invariant_of-self : goal.invariant_of-self
invariant_of-self g c =
    let view = ap (λ (l : List (Entry g.row.F.Denot)). feeds_of (all_sized l)) c.deref_mut.ensures.value ∙ c.self.view_is in
    let many : length c.commit_all.new.entries ≡ c.self.inside.entries.len = omega (arith, c.commit_all.auto.entries, c.deref_mut.ensures.len) in
    let is = with_items_is c.self.inside.entries c.commit_all.new.entries many in
    let k = subst (λ (l : List (Entry g.row.F.Denot)). Keeps g.F.Following.held (all_sized l)) (sym c.deref_mut.ensures.value) c.self.invariant in
    commit_keeps g.F.Following.held c.deref_mut.result.now c.commit_all.new.entries is c.args.self.now view (all_pending c.draft.inside.shadows.items) c.commit_all.result c.commit_all.ensures.feeds c.commit_all.ensures.sizes c.commit_all.ensures.same k

pub returns : goal.returns
returns g c =
    let view = ap (λ (l : List (Entry g.row.F.Denot)). feeds_of (all_sized l)) c.deref_mut.ensures.value ∙ c.self.view_is in
    let many : length c.commit_all.new.entries ≡ c.self.inside.entries.len = omega (arith, c.commit_all.auto.entries, c.deref_mut.ensures.len) in
    let is = with_items_is c.self.inside.entries c.commit_all.new.entries many in
    commit_left g.F.Following.held c.deref_mut.result.now c.commit_all.new.entries is c.args.self.now view (all_pending c.draft.inside.shadows.items) c.args.draft c.draft.view_is c.commit_all.result c.commit_all.ensures.feeds c.commit_all.ensures.same
