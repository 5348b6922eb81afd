use Rattle.reql_turns.proofs.Stepping.{begins}
use Rattle.reql_turns.proofs.running.begin.Goals as goal

pub returns-clause-on : goal.returns-clause-on
returns-clause-on g c = λ k w p o. begins k (g.L.Link.tape c.args.link) w c.args.prepared.ears c.requires.fresh p o
