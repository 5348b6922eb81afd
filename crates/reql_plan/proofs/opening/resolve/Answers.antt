use Rattle.std.proofs.Common.{sym}
use Rattle.reql_plan.proofs.opening.resolve.Goals as goal

pub returns : goal.returns
returns c = rw (sym c.as_str.ensures, sym c.term.ensures) c.resolved.ensures
