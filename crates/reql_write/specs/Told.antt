-- The text of a fault.
use Rattle.std.specs.Prelude.{◌≡◌, [], Option}
use Rattle.reql_datum.specs.declared.fault.Fault.{Fault}
use Rattle.reql_datum.specs.declared.fault.Fault.TheVariants.{QueryLogic, NonExistence, ResourceLimit, OpFailed, User, Empty, Memory}
use Rattle.reql_datum.specs.Plain.{Plain}
use Rattle.reql_rules.specs.Lists.{Bytes}
use Rattle.reql_write_spec.specs.Treated.{Treated, failed}

-- which text it has; want of memory has none
abbrev pub Tells : Fault → Bytes → Type 0
Tells (QueryLogic s) text = text ≡ s
Tells (NonExistence s) text = text ≡ s
Tells (ResourceLimit s) text = text ≡ s
Tells (OpFailed s) text = text ≡ s
Tells (User s) text = text ≡ s
Tells Empty text = text ≡ []
Tells Memory text = ⊥

-- an error with the text of a fault, beside the document that stays
abbrev pub Falls : Fault → Option Plain → Treated → Type 0
Falls fault old (failed why stays) = Tells fault why × (stays ≡ old)
Falls fault old t = ⊥
