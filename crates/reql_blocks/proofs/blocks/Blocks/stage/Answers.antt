use Rattle.std.proofs.Common.{subst, refl, ap, sym, Some}
use Rattle.reql_blocks.specs.Held.{Rests}
use Rattle.reql_blocks.proofs.Turns.{rests_going, stage_fails, stage_done}
use Rattle.reql_blocks.proofs.blocks.Blocks.stage.Goals as goal

pub returns-in-Err-clause-stages : goal.returns-in-Err-clause-stages
returns-in-Err-clause-stages g c bodies past r =
    let r1 = subst (λ h. Rests bodies past h) (sym c.self.view_is) r in
    (stage_fails bodies past _ _ r1 refl refl (c.write_block.ensures.goes bodies past r1.gate (rests_going bodies past _ r1)))

pub returns-in-Ok-clause-stages : goal.returns-in-Ok-clause-stages
returns-in-Ok-clause-stages g c bodies past r =
    let r1 = subst (λ h. Rests bodies past h) (sym c.self.view_is) r in
    stage_done bodies past c.args.body.now _ _ r1 refl (ap Some c.in-Some.ensures) (c.in-Ok.ensures.staged bodies past r1.gate (rests_going bodies past _ r1))
