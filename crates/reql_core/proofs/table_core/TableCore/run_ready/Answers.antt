use Rattle.reql_core.proofs.Tails.{tail_on}
use Rattle.reql_core.proofs.table_core.TableCore.run_ready.Goals as goal

pub invariant_of-self : goal.invariant_of-self
invariant_of-self g c =
    tail_on g.F.Following.held c.args.by c.args.order c.self.inside.live c.run.new.self c.in-Ok.wrote.said c.in-Ok.ensures.does c.self.inside.tail c.lengthen.new.tail c.self.invariant c.lengthen.ensures.goes c.lengthen.ensures.stays
