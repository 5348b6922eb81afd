use Rattle.std.proofs.Common.{◌<◌, List, sym, ap, subst, ◌∙◌}
use Rattle.std.specs.List.{All}
use Rattle.reql_datum.specs.Plain.{Plain}
use Rattle.reql_table_spec.specs.declared.command.FeedSpec.{FeedSpec}
use Rattle.reql_queue.specs.Queued.{Queued}
use Rattle.reql_table_machine_spec.specs.Feeds.{Feed}
use Rattle.reql_feeds.specs.Keeps.{Keeps, IsSized, feeds_of, at_least_one}
use Rattle.reql_feeds.specs.Seen.{sized, all_sized}
use Rattle.reql_feeds.specs.declared.entry.Entry.{Entry}
use Rattle.reql_feeds.proofs.Sizes.{one_counts}
use Rattle.reql_feeds.proofs.Takes.{open_keeps}
use Rattle.reql_feeds.proofs.feeds.Feeds.open.Goals as goal

pub invariant_of-self-2 : goal.invariant_of-self-2
invariant_of-self-2 g c =
    let e : Entry g.row.F.Denot = record { owner = c.args.owner; number = c.args.number; opened = c.args.stamp; kept = c.in_ok-kept.kept; queue = c.new-queue.result } in
    let size : IsSized g.F.Following.held (sized e) = ap (λ (q : Queued _). q.size) c.new-queue.ensures ∙ (c.max.ensures ∙ (one_counts c.spec.result.now.size ∙ ap (λ (s : FeedSpec). at_least_one s.size) c.spec.ensures)) in
    let below : All (λ (f : Feed g.row.F.Denot Plain). f.number < c.args.number) (feeds_of (all_sized c.self.inside.entries.items)) = rw (← c.self.view_is) at c.requires in
    subst (λ (l : List (Entry g.row.F.Denot)). Keeps g.F.Following.held (all_sized l)) (sym c.in_ok-push.ensures.items)
    (open_keeps g.F.Following.held c.self.inside.entries.items e c.self.invariant below size)
