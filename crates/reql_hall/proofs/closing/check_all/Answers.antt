use Rattle.std.proofs.Common.{◌<◌, length, refl, ◌∙◌, arith}
use Rattle.reql_hall.proofs.Checking.{desks_none, desks_one, desks_all, learns_still, desks_stay}
use Rattle.reql_hall.proofs.closing.check_all.Goals as goal

pub loop-desk-init : goal.loop-desk-init
loop-desk-init g c = (refl, refl, desks_none _ _, c.requires.of_this_hall)

pub loop-desk-preserved : goal.loop-desk-preserved
loop-desk-preserved g c =
    let i = c.loop-desk.invariant in
    let lt : c.loop-desk.desk-index < length c.args.desks.now = omega arith in (
      c.check_desk.ensures.names ∙ i.0,
      c.check_desk.ensures.slots ∙ i.1,
      desks_one _ _ _ _ _ _ i.2 lt (learns_still c.loop-desk.names c.args.names.now c.loop-desk.slots c.args.slots.now _ _ i.0 i.1 c.check_desk.ensures.desk),
      desks_stay c.loop-desk.names c.args.names.now c.loop-desk.slots c.args.slots.now _ _ _ i.0 i.1 c.check_desk.ensures.stays i.3,
    )

pub returns-clause-desks : goal.returns-clause-desks
returns-clause-desks g c = desks_all _ _ _ _ c.loop-desk.invariant.2 (omega arith)
