use Rattle.reql_serve.proofs.Sharing.{add_up}
use Rattle.reql_serve.proofs.many.shares_add_up.Goals as goal

pub returns : goal.returns
returns c = add_up
