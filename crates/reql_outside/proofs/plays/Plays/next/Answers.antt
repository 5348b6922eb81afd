use Rattle.std.proofs.Common.{arith}
use Rattle.std.proofs.lemmas.Grind.{common_steps}
use Rattle.reql_outside.proofs.Giving.{gives_next}
use Rattle.reql_outside.proofs.plays.Plays.next.Goals as goal

pub returns-clause-gives : goal.returns-clause-gives
returns-clause-gives g c =
    rw (← c.self.view_is) (gives_next c.self.inside.list.items c.self.inside.rest c.at-item.result c.self.inside.given c.saturating_add-self-inside-2.result c.self.inside.faults c.self.inside.fails.items
    (omega arith) (grind (arith, common_steps)) c.at-item.ensures)
