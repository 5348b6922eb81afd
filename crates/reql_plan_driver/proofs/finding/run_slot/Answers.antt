use Rattle.std.proofs.Common.{◌<◌, length, arith}
use Rattle.reql_plan_driver.proofs.Being.{there_noted, there_without}
use Rattle.reql_plan_driver.proofs.finding.run_slot.Goals as goal

pub returns-in-Ok-clause-there : goal.returns-in-Ok-clause-there
returns-in-Ok-clause-there g c =
    let lt : c.args.slot < length c.args.hall.now.slots = omega (arith, c.if-slot-slots.false, c.requires.slots) in
    there_noted (length c.args.hall.now.slots) c.args.slot _ _ c.args.met.now.opened.items c.make_room.new.met.opened.items c.note.new.opened.items lt c.make_room.ensures.opened c.note.ensures

pub returns-in-Err-clause-there : goal.returns-in-Err-clause-there
returns-in-Err-clause-there g c = there_without (length c.args.hall.now.slots) c.args.slot _ c.args.met.now.opened.items c.make_room.new.met.opened.items c.forget_closed.new.opened.items c.make_room.ensures.opened c.forget_closed.ensures
