-- A fault that tells a reason is a call's fault where the definition answers that reason.
use Rattle.std.proofs.Common.{◌≡◌, ap, ◌∙◌, Err}
use Rattle.reql_datum.specs.Answer.{Answer, Reason}
use Rattle.reql_datum.specs.Outcome.{Fails}
use Rattle.reql_datum.specs.declared.fault.Fault.{Fault}
use Rattle.reql_datum.specs.declared.fault.Fault.TheVariants.{QueryLogic, NonExistence, ResourceLimit, OpFailed, User, Empty, Memory}
use Rattle.reql_scalar.specs.Told.{Tells}

pub told : {Y : Type 0} (f : Fault) (e : Reason) (meant : Answer Y) → Tells f e → meant ≡ Err e → Fails f meant
told (QueryLogic s) e meant h is = is ∙ ap (λ x. Err x) h
told (NonExistence s) e meant h is = is ∙ ap (λ x. Err x) h
told (ResourceLimit s) e meant h is = is ∙ ap (λ x. Err x) h
told (OpFailed s) e meant h is = is ∙ ap (λ x. Err x) h
told (User s) e meant h is = is ∙ ap (λ x. Err x) h
told Empty e meant h is = is ∙ ap (λ x. Err x) h
told Memory e meant h is = tt
