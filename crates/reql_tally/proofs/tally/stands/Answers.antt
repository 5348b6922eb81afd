use Rattle.reql_core.specs.Core.{state_of}
use Rattle.reql_tally.proofs.tally.stands.Goals as goal

pub returns-in-Some : goal.returns-in-Some
returns-in-Some g c =
    let s = state_of g.F.Following.held c.args.engine.now in
    c.is_there.ensures s (rw c.in-Some.is at c.in_ok-seen.ensures)
