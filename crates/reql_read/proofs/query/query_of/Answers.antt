use Rattle.std.proofs.Common.{sym, subst}
use Rattle.serde_json.specs.View.{view}
use Rattle.reql_read.specs.Outcome.{Understands}
use Rattle.reql_read.specs.View.{asked}
use Rattle.reql_read.proofs.Asked.{query_same}
use Rattle.reql_read.proofs.query.query_of.Goals as goal

pub returns : goal.returns
returns c = subst (Understands asked c.taken.result) (sym (query_same (view c.args.v.now))) c.taken.ensures
