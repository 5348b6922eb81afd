use Rattle.reql_tail.proofs.Keeping.{is_kept}
use Rattle.reql_tail.proofs.tail.Tail.base.Goals as goal

pub returns-clause-kept : goal.returns-clause-kept
returns-clause-kept g c = rw (← c.self.view_is) (is_kept g.B.Led.state g.B.Led.after g.B.Led.place g.met.B.Led.counts c.self.inside.most c.self.inside.opening.value c.self.inside.older c.self.inside.newer c.self.inside.next c.self.invariant)
