-- What a fault tells is a reason, unless memory ran out while its text was made.
use Rattle.std.specs.Prelude.{◌≡◌}
use Rattle.reql_datum.specs.Answer.{Reason, query_logic, non_existence, resource_limit, op_failed, user, no_text}
use Rattle.reql_datum.specs.declared.fault.Fault.{Fault}
use Rattle.reql_datum.specs.declared.fault.Fault.TheVariants.{QueryLogic, NonExistence, ResourceLimit, OpFailed, User, Empty, Memory}

abbrev pub Tells : Fault → Reason → Type 0
Tells (QueryLogic s) e = e ≡ query_logic s
Tells (NonExistence s) e = e ≡ non_existence s
Tells (ResourceLimit s) e = e ≡ resource_limit s
Tells (OpFailed s) e = e ≡ op_failed s
Tells (User s) e = e ≡ user s
Tells Empty e = e ≡ no_text
Tells Memory e = Unit {0}
