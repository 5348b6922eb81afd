use Rattle.std.proofs.Common.{◌∙◌, ap}
use Rattle.reql_queue.specs.Queued.{Queued}
use Rattle.reql_feeds.specs.Told.{stamped}
use Rattle.reql_feeds.proofs.Queues.{installed_record, size_stays}
use Rattle.reql_feeds.proofs.telling.install_one.Goals as goal

pub returns-clause-queued : goal.returns-clause-queued
returns-clause-queued g c =
    installed_record g.F.Following.held c.args.entry.now c.install.new.self c.queue_items.new.queue c.args.stamp c.args.prepared.items c.into_vec.result.items c.requires.size c.install.ensures.held c.into_vec.ensures c.queue_items.ensures

pub returns-clause-size : goal.returns-clause-size
returns-clause-size g c = ap (λ (q : Queued _). q.size) c.queue_items.ensures ∙ size_stays (stamped c.args.stamp c.into_vec.result.items) c.args.entry.now.queue
