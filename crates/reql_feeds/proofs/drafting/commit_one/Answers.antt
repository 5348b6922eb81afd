use Rattle.std.proofs.Common.{◌∙◌, ap}
use Rattle.reql_queue.specs.Queued.{Queued}
use Rattle.reql_feeds.proofs.Commits.{committed}
use Rattle.reql_feeds.proofs.Queues.{size_stays}
use Rattle.reql_feeds.proofs.drafting.commit_one.Goals as goal

pub returns-clause-feed : goal.returns-clause-feed
returns-clause-feed g c = committed g.F.Following.held c.args.entry.now c.args.shadow c.replace_by.new.kept c.queue_all.new.queue c.replace_by.ensures c.requires.asked c.requires.size c.queue_all.ensures

pub returns-clause-size : goal.returns-clause-size
returns-clause-size g c = ap (λ (q : Queued _). q.size) c.queue_all.ensures ∙ size_stays c.args.shadow.items.items c.args.entry.now.queue
