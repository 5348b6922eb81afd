use Rattle.reql_desk_moves.proofs.Calls.{looked_at}
use Rattle.reql_desk_moves.proofs.slots.look_at.Goals as goal

pub returns-clause-looked : goal.returns-clause-looked
returns-clause-looked g c = looked_at g.C.Engine.machine g.met.C.TableEngine.is_machine g.C.Engine.heard g.C.Engine.some_state c.args.desk.now c.look.new.self c.args.slot c.look.result c.look.ensures.names c.look.ensures.others c.look.ensures.looked c.look.ensures.denied
