use Rattle.std.proofs.Common.{◌∙◌}
use Rattle.reql_feed_read.proofs.Counted.{bare}
use Rattle.reql_feed_read.proofs.places.are_none.Goals as goal

pub returns : goal.returns
returns c = c.is_empty.ensures ∙ bare c.args.opts.now
