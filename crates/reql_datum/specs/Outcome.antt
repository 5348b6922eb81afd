-- What a call returned is what a definition gives, unless memory ran out: the one place where memory is free.
use Rattle.std.specs.Prelude.{◌≡◌, Result, Ok, Err}
use Rattle.reql_datum.specs.Answer.{Answer, query_logic, non_existence, resource_limit, op_failed, user, no_text}
use Rattle.reql_datum.specs.declared.fault.Fault.{Fault}
use Rattle.reql_datum.specs.declared.fault.Fault.TheVariants.{QueryLogic, NonExistence, ResourceLimit, OpFailed, User, Empty, Memory}

abbrev pub Fails : {Y : Type 0} → Fault → Answer Y → Type 0
Fails (QueryLogic s) meant = meant ≡ Err (query_logic s)
Fails (NonExistence s) meant = meant ≡ Err (non_existence s)
Fails (ResourceLimit s) meant = meant ≡ Err (resource_limit s)
Fails (OpFailed s) meant = meant ≡ Err (op_failed s)
Fails (User s) meant = meant ≡ Err (user s)
Fails Empty meant = meant ≡ Err no_text
Fails Memory meant = Unit {0}

-- the value, as view sees it, or the fault
abbrev pub Gives : {X Y : Type 0} → (X → Y) → Result X Fault → Answer Y → Type 0
Gives view (Ok x) meant = meant ≡ Ok (view x)
Gives view (Err e) meant = Fails e meant
