use Rattle.std.proofs.Common.{arith}
use Rattle.reql_datum.specs.View.{plain}
use Rattle.reql_squash.proofs.Walks.{ends_some, ends_none}
use Rattle.reql_squash.proofs.joining.last_in.Goals as goal

pub returns-in-Some : goal.returns-in-Some
returns-in-Some c = ends_some c.args.items.now (plain c.args.first.now) (plain c.in-Some.found.now) c.saturating_sub-last.result (omega (arith, c.saturating_sub-last.ensures, c.len.ensures)) c.requires c.in-Some.ensures.found

pub returns-in-None : goal.returns-in-None
returns-in-None c = absurd (ends_none c.args.items.now (plain c.args.first.now) c.saturating_sub-last.result (omega (arith, c.saturating_sub-last.ensures, c.len.ensures)) c.requires c.in-None.ensures.found)
