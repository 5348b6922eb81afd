use Rattle.std.proofs.Common.{subst, refl, sym}
use Rattle.reql_blocks.specs.Held.{Waits}
use Rattle.reql_blocks.proofs.Turns.{waits_going, open_fails, open_done}
use Rattle.reql_blocks.proofs.blocks.Blocks.open_gate.Goals as goal

pub returns-in-Err-clause-opens : goal.returns-in-Err-clause-opens
returns-in-Err-clause-opens g c bodies body past w =
    let w1 = subst (λ h. Waits bodies body past h) (sym c.self.view_is) w in
    (open_fails bodies past body _ _ w1 refl refl (c.write_gate.ensures.goes bodies body past w1.gate (waits_going bodies past body _ w1)))

pub returns-in-Ok-clause-opens : goal.returns-in-Ok-clause-opens
returns-in-Ok-clause-opens g c bodies body past w =
    let w1 = subst (λ h. Waits bodies body past h) (sym c.self.view_is) w in
    open_done bodies past body _ _ c.in-Some.next w1 c.in-Some.is refl refl (c.in-Ok.ensures.opened bodies body past w1.gate (waits_going bodies past body _ w1))
