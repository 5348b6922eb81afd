use Rattle.std.proofs.Common.{◌≡◌, Ok}
use Rattle.reql_operand.specs.Seen.{meant}
use Rattle.reql_argument_order.specs.Kept.{kept}
use Rattle.reql_argument_order.proofs.defaults.default_to.Goals as goal

pub returns-in-Ok : goal.returns-in-Ok
unfolding kept
returns-in-Ok g c w s vars a same lent gives =
    let there : a ≡ Ok (meant w c.in-Ok.value) = rw c.in-Ok.is at gives in
    rw there (c.on_value.ensures w s vars same lent)
