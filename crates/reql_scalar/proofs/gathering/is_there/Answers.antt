use Rattle.std.proofs.Common.{◌∙◌}
use Rattle.reql_scalar.proofs.Gathered.{found_there}
use Rattle.reql_scalar.proofs.gathering.is_there.Goals as goal

pub returns : goal.returns
returns c = c.contains_key.ensures ∙ found_there c.args.name.now c.args.named.now.entries
