use Rattle.reql_hall.proofs.Checking.{learns_all, sits_learnt}
use Rattle.reql_hall.proofs.closing.check_desk.Goals as goal

pub check_slots-requires : goal.check_slots-requires
check_slots-requires g c = record { of_these_engines = (rw (← c.desk.view_is) at c.requires.of_this_hall).slots }

pub returns-clause-desk : goal.returns-clause-desk
returns-clause-desk g c =
    let s = rw (← c.desk.view_is) at c.requires.of_this_hall in
    rw (← c.desk.view_is) (learns_all _ _ _ _ s.slots c.check.ensures.pass c.check_slots.ensures.many c.check_slots.ensures.learns)

pub returns-clause-stays : goal.returns-clause-stays
returns-clause-stays g c =
    let s = rw (← c.desk.view_is) at c.requires.of_this_hall in
    sits_learnt _ _ _ _ _ s s.slots c.check.ensures.pass c.check_slots.ensures.many c.check_slots.ensures.learns
