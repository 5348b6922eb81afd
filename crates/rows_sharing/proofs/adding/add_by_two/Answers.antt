use mathlib.Core.List.{[], ◌∷◌}
use denote.RattleType.{RattleType}
use denote.Param.Send.{IsSend, sendable}
use denote.Struct.Field.{u64-field, unit-field}
use denote.Struct.Tuple.{Tuple}
use Rattle.std.specs.contracts.option.Option as option
use Rattle.reql_shared.proofs.Sends.{pass_send, shared_sync}
use Rattle.rows_sharing.specs.contracts.adder.Adder as adder
use Rattle.rows_sharing.specs.contracts.adder.AdderEngine.TheImpl as engine
use Rattle.rows_sharing.proofs.adding.add_by_two.Goals as goal

adder_send : IsSend adder.the_row
adder_send = search sendable

pub join_mut-requires-send-F : goal.join_mut-requires-send-F
join_mut-requires-send-F g c κs within =
    let number : RattleType = (u64-field).row in
    let p = pass_send adder.the_row number (option.the_row number) (unit-field).row number (Tuple (number ∷ number ∷ [])) (option.the_row number) number engine.ghosts adder_send in
    let s = shared_sync adder.the_row number (option.the_row number) (unit-field).row number (Tuple (number ∷ number ∷ [])) (option.the_row number) number engine.ghosts adder_send in
    search sendable depth 20
