use Rattle.std.proofs.Common.{sym, ◌∙◌}
use Rattle.reql_wire.proofs.Fronts.{once}
use Rattle.reql_wire.proofs.frame_laws.frames_are_once.Goals as goal

pub returns : goal.returns
returns c = λ limit bytes fs gs a b h p q. once limit fs gs a b h p.each q.each p.no_more q.no_more (sym p.joined ∙ q.joined)
