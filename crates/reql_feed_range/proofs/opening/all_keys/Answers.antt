use Rattle.std.proofs.Common.{Some, ap}
use Rattle.reql_feed_range.proofs.Documents.{all_lie}
use Rattle.reql_feed_range.proofs.opening.all_keys.Goals as goal

pub returns : goal.returns
returns c docs indexes entries = ap Some (all_lie docs)
