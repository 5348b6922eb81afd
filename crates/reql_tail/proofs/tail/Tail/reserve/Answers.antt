use Rattle.std.proofs.Common.{rules}
use Rattle.reql_tail.proofs.Keeping.{same_keeps}
use Rattle.reql_tail.proofs.tail.Tail.reserve.Goals as goal

pub invariant_of-self-2 : goal.invariant_of-self-2
invariant_of-self-2 g c = same_keeps g.B.Led.state g.B.Led.after g.B.Led.place c.self.inside.most c.self.inside.opening.value c.self.inside.older c.make_room.new.older c.self.inside.newer c.make_room.new.newer c.self.inside.next c.make_room.ensures.same (search rules) c.self.invariant
