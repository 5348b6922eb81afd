use Rattle.std.proofs.Common.{refl}
use Rattle.std.specs.Fmt.{digits}
use Rattle.serde_json.proofs.OnLiterals.{serde_json_on_literals}
use Rattle.reql_answer.proofs.fixed.internal.Goals as goal

pub returns-clause-body : goal.returns-clause-body
unfolding serde_json_on_literals digits
returns-clause-body c = refl
