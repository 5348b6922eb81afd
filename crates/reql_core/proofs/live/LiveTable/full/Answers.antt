use Rattle.reql_core.proofs.Fulls.{write_full}
use Rattle.reql_core.proofs.live.LiveTable.full.Goals as goal

pub returns-in-Write : goal.returns-in-Write
returns-in-Write g c = rw c.in-Write.is (write_full g.F.Following.held c.args.by c.args.self.now c.requires.full c.in-Write.field-0 c.refuse.result c.refuse.ensures)
