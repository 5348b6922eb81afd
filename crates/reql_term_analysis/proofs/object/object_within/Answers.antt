use Rattle.std.proofs.Common.{◌≡◌, Ok}
use Rattle.reql_term_analysis.proofs.object.object_within.Goals as goal

pub returns-in-Ok : goal.returns-in-Ok
returns-in-Ok c w a h =
    let e : a ≡ Ok c.in-Ok.fields = rw c.in-Ok.is at h in
    rw e (c.sized.ensures w)
