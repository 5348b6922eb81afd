use Rattle.reql_serve.proofs.Grouped.{StandUpTo}
use Rattle.reql_serve.proofs.group.stand_all.Given as goal

abbrev pub invariant-loop-place : goal.invariant-loop-place
invariant-loop-place g l = StandUpTo g.G.Door.told l.initial.workers l.workers l.state l.place
