use Rattle.std.proofs.Common.{◌≡◌, All, None, sym, subst, arith}
use Rattle.reql_serve.proofs.Grouped.{all_begin, all_worked, all_rested}
use Rattle.reql_serve.proofs.group.serve_chunk.Goals as goal

pub returns-in_default : goal.returns-in_default
returns-in_default g c = all_rested _ _ _ _ _ _ _ c.args.workers.now c.stand_all.new.workers (omega (arith, c.stand_all.auto.workers)) c.requires.of_this_hall c.requires.unused c.stand_all.ensures

pub serve_in_turns-requires-clause-seats : goal.serve_in_turns-requires-clause-seats
serve_in_turns-requires-clause-seats g c =
    all_begin _ _ _ _ _ _ _ _ _ _ c.args.workers.now c.stand_all-2.new.workers c.deref_mut.result.now (omega (arith, c.stand_all-2.auto.workers)) c.requires.of_this_hall c.requires.unused c.stand_all-2.ensures
    (subst (All (λ s. s ≡ None)) (sym c.deref_mut.ensures.value) c.in-Some.ensures.free)

pub returns : goal.returns
returns g c =
    all_worked _ _ _ _ _ _ _ _ _ _ c.args.workers.now c.stand_all-2.new.workers c.serve_in_turns.new.workers c.deref_mut.result.now c.serve_in_turns.new.sittings
    (omega (arith, c.stand_all-2.auto.workers)) (omega (arith, c.stand_all-2.auto.workers, c.serve_in_turns.auto.workers)) c.requires.of_this_hall c.requires.unused c.stand_all-2.ensures
    (subst (All (λ s. s ≡ None)) (sym c.deref_mut.ensures.value) c.in-Some.ensures.free) c.serve_in_turns.ensures.served c.serve_in_turns.ensures.over

pub serve_in_turns-requires-clause-slots : goal.serve_in_turns-requires-clause-slots
serve_in_turns-requires-clause-slots g c = c.requires.slots_there
