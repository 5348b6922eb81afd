use Rattle.reql_desk_moves.proofs.Calls.{names_seen}
use Rattle.reql_desk_moves.proofs.names.look_names_at.Goals as goal

pub returns-in-Ok-clause-looked : goal.returns-in-Ok-clause-looked
returns-in-Ok-clause-looked g c = names_seen g.C.Engine.some_state c.args.desk.now c.look_names.new.self c.in-Ok.names c.names_place-place.result c.look_names.ensures.slots c.in-Ok.ensures.looked c.names_place-place.ensures
