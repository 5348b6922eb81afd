use Rattle.reql_feeds.proofs.Takings.{plain_batch, plain_left}
use Rattle.reql_feeds.proofs.taking.take_kind.Goals as goal

pub returns-clause-batch : goal.returns-clause-batch
returns-clause-batch g c =
    let e = c.in_ok-taken-2.ensures in
    plain_batch g.F.Following.held c.args.entry.now c.args.max c.in_ok-taken-2.taken c.spec.result.now c.is_joined.result c.spec.ensures c.is_joined.ensures c.if-is_joined.false e.skipped e.last e.items

pub returns-clause-left : goal.returns-clause-left
returns-clause-left g c =
    plain_left g.F.Following.held c.args.entry.now c.args.max c.take.new.self c.spec.result.now c.is_joined.result c.spec.ensures c.is_joined.ensures c.if-is_joined.false c.in_ok-taken-2.ensures.left
