use Rattle.reql_rewrite.proofs.Kept.{kept, stops, fails}
use Rattle.reql_rewrite.proofs.laws.rewrite_laws.Goals as goal

pub returns : goal.returns
returns c = record { keeps = kept; root = stops; fault = fails }
