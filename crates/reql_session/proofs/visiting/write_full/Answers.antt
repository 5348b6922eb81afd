use Rattle.std.proofs.Common.{None, refl}
use Rattle.reql_answer.specs.declared.error.ErrorType.TheVariants as errors
use Rattle.reql_session_spec.specs.Requests.{Failed}
use Rattle.reql_session_spec.specs.Bodies as texts
use Rattle.reql_session.proofs.visiting.write_full.Goals as goal

pub returns : goal.returns
returns g c = λ k l. c.fitted.ensures k (Failed errors.ResourceLimit texts.full None) l c.in_ok-body.ensures refl
