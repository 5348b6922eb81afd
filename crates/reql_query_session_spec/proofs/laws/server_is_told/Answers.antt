use Rattle.std.specs.Prelude.{refl}
use Rattle.reql_query_session_spec.proofs.laws.server_is_told.Goals as goal

pub returns : goal.returns
returns c = refl
