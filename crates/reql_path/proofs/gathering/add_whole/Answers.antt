use Rattle.reql_path.proofs.Gathered.{gathers_whole}
use Rattle.reql_path.proofs.gathering.add_whole.Goals as goal

pub returns : goal.returns
returns c =
    gathers_whole c.args.named.now.entries c.insert.new.self.entries c.args.name.now
    (rw (c.in_ok-key.ensures) at c.in_ok-insert.ensures.entries) (rw (c.in_ok-key.ensures) at c.in_ok-insert.ensures.updates.0) c.in_ok-insert.ensures.ordered
