use Rattle.std.proofs.Common.{None}
use Rattle.reql_answer.specs.declared.error.ErrorType.TheVariants as errors
use Rattle.reql_session_spec.specs.Requests.{Failed}
use Rattle.reql_session_spec.specs.Bodies as texts
use Rattle.reql_session_spec.specs.Tasks.{fitted}
use Rattle.reql_session.proofs.visiting.told_full.Goals as goal

pub returns-clause-told : goal.returns-clause-told
returns-clause-told g c = λ k clock dice f l found. c.lose_with.ensures.lost k clock dice f (fitted k (Failed errors.ResourceLimit texts.full None)) found (c.write_full-written.ensures k l)
