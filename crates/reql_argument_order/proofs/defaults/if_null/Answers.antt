use Rattle.std.proofs.Common.{Ok, refl}
use Rattle.reql_datum.specs.Plain.{null}
use Rattle.reql_value_spec.specs.Lazy.{told}
use Rattle.reql_value_spec.specs.Meant.{one}
use Rattle.reql_argument_order.proofs.Told.{told_one}
use Rattle.reql_argument_order.proofs.defaults.if_null.Goals as goal

pub returns : goal.returns
returns g c w s vars lent =
    let given = told_one s w vars c.from_ref.result.now _ null c.tell-given.result c.from_ref.ensures.value refl (lent.answers _ _ c.tell-given.ensures) in
    c.or_caught.ensures w (Ok (one null)) (told s w vars null) refl given
