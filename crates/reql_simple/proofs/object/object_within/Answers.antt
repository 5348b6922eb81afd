use Rattle.reql_simple.proofs.Members.{object_made}
use Rattle.reql_simple.proofs.object.object_within.Goals as goal

pub returns-in-Some : goal.returns-in-Some
returns-in-Some c fs frames made = object_made c.args.limit fs frames c.in-Some.members c.sized.result (rw c.in-Some.is at made) c.sized.ensures
