use Rattle.reql_planner.proofs.Stating.{grown_by}
use Rattle.reql_planner.proofs.course.QueryCourse.hear.Goals as goal

pub invariant_of-self : goal.invariant_of-self
invariant_of-self g c = record { starts = grown_by c.args.self.now.seen.items c.and-seen.result.items (c.args.found.now, tt) c.and-seen.ensures; follows = tt }
