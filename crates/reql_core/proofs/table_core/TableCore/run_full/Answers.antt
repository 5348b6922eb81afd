use Rattle.std.proofs.Common.{refl}
use Rattle.reql_core.proofs.Answering.{hands_none}
use Rattle.reql_core.proofs.table_core.TableCore.run_full.Goals as goal

pub returns-clause-kept : goal.returns-clause-kept
returns-clause-kept g c =
    rw (← c.self.view_is, c.new.ensures.items) (hands_none g.F.Following.held c.args.by c.args.order.now c.self.inside.live c.self.inside.live c.full-said.result c.full-said.ensures refl)
