use Rattle.std.proofs.Common.{rules}
use Rattle.reql_tail.proofs.Keeping.{turned_keeps}
use Rattle.reql_tail.proofs.tail.Tail.push.Goals as goal

pub invariant_of-self : goal.invariant_of-self
invariant_of-self g c = turned_keeps g.B.Led.state g.B.Led.after g.B.Led.place g.met.B.Led.counts c.self.inside.most c.self.inside.opening.value c.self.inside.older c.turn.new.older c.in-Some.half c.self.inside.newer c.turn.new.newer c.self.inside.next c.take.new.self c.args.entry (search rules) (search rules) c.turn.ensures c.self.invariant
