use Rattle.reql_desk_moves.proofs.Calls.{names_changed}
use Rattle.reql_desk_moves.proofs.names.change_names_at.Goals as goal

pub returns-clause-changed : goal.returns-clause-changed
returns-clause-changed g c = names_changed g.C.Engine.some_state c.args.desk.now c.change_names.new.self c.args.cmd c.change_names.result c.change_names.ensures.slots c.change_names.ensures.ran c.change_names.ensures.refused
