use Rattle.std.proofs.Common.{refl}
use Rattle.std.specs.Fmt.{digits}
use Rattle.serde_json.proofs.OnLiterals.{serde_json_on_literals}
use Rattle.reql_session_spec.specs.Bodies.{body}
use Rattle.reql_bodies.proofs.fixed.waited.Goals as goal

pub returns : goal.returns
unfolding body serde_json_on_literals digits
returns c = refl
