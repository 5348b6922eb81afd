use Rattle.reql_desk_moves.proofs.Calls.{ran_at}
use Rattle.reql_desk_moves.proofs.slots.run_at.Goals as goal

pub returns-clause-ran : goal.returns-clause-ran
returns-clause-ran g c =
    ran_at g.C.Engine.machine g.met.C.TableEngine.is_machine g.C.Engine.state g.C.Engine.tells g.C.TableEngine.faults g.met.C.TableEngine.fails g.C.Engine.some_state c.args.desk.now c.args.slot g.C.Engine.told g.met.C.TableEngine.tells_all c.run.new.self c.args.order c.run.result c.run.ensures.names c.run.ensures.others c.run.ensures.ran c.run.ensures.tells c.run.ensures.refused
