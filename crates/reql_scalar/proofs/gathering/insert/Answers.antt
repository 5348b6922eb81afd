use Rattle.reql_scalar.proofs.Gathered.{gathered_put}
use Rattle.reql_scalar.proofs.gathering.insert.Goals as goal

pub returns : goal.returns
returns c = gathered_put c.args.name c.args.value c.args.named.now.entries c.insert.new.self.entries c.in_ok-insert.ensures.entries
