use Rattle.std.proofs.Common.{◌≡◌, length, arith}
use Rattle.std.proofs.lemmas.List.{with_items_is}
use Rattle.reql_hall.proofs.hall.Hall.close.Goals as goal

pub returns-clause-desks : goal.returns-clause-desks
returns-clause-desks g c =
    let d : length c.check_all.new.desks ≡ c.args.desks.len = omega (arith, c.check_all.auto.desks, c.deref_mut-2.ensures.len) in
    let s : length c.check_all.new.slots ≡ c.close_all-slots.result.len = omega (arith, c.check_all.auto.slots, c.deref_mut.ensures.len) in
    rw (with_items_is c.args.desks c.check_all.new.desks d, with_items_is c.close_all-slots.result c.check_all.new.slots s, c.check_all.ensures.names, c.check_all.ensures.slots) (rw c.deref_mut-2.ensures.value at c.check_all.ensures.desks)

pub returns-clause-of_this_hall : goal.returns-clause-of_this_hall
returns-clause-of_this_hall g c =
    let d : length c.check_all.new.desks ≡ c.args.desks.len = omega (arith, c.check_all.auto.desks, c.deref_mut-2.ensures.len) in
    let s : length c.check_all.new.slots ≡ c.close_all-slots.result.len = omega (arith, c.check_all.auto.slots, c.deref_mut.ensures.len) in
    rw (with_items_is c.args.desks c.check_all.new.desks d, with_items_is c.close_all-slots.result c.check_all.new.slots s, c.check_all.ensures.names, c.check_all.ensures.slots) c.check_all.ensures.stay
