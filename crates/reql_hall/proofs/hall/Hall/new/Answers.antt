use Rattle.std.proofs.Common.{◌≡◌, [], length, refl, ap, ◌∙◌, arith}
use Rattle.std.proofs.lemmas.List.{with_items_is, length-map}
use Rattle.std.proofs.lemmas.List.Elements.{All-map}
use Rattle.reql_hall.proofs.Dealing.{seat_of, length_unused, unused_shared, all_sit}
use Rattle.reql_hall.proofs.hall.Hall.new.Goals as goal

pub share_all-requires-clause-count : goal.share_all-requires-clause-count
share_all-requires-clause-count g c =
    let n = c.in_ok-names.ensures in
    ap length (c.deref_mut.ensures.value ∙ c.in_ok-made.ensures) ∙ length-map c.in_ok-names.passes.items seat_of ∙ length_unused c.in_ok-names.passes.items c.in_ok-names.names c.args.desks n.passes n.count

pub share_all-requires-clause-empty : goal.share_all-requires-clause-empty
share_all-requires-clause-empty g c =
    rw (c.deref_mut.ensures.value, c.in_ok-made.ensures) (All-map (λ desk. desk.slots ≡ []) seat_of c.in_ok-names.passes.items (λ k d lt. refl))

pub returns-clause-desks : goal.returns-clause-desks
returns-clause-desks g c =
    let n = c.in_ok-names.ensures in
    let l : length c.share_all.new.desks ≡ c.in_ok-made.made.len = omega (arith, c.share_all.auto.desks, c.deref_mut.ensures.len) in
    with_items_is c.in_ok-made.made c.share_all.new.desks l
    ∙ unused_shared _ c.in_ok-names.names c.in_ok-names.passes.items c.deref_mut.result.now c.share_all.new.desks c.in_ok-slots.slots.items c.args.desks n.passes n.count (c.deref_mut.ensures.value ∙ c.in_ok-made.ensures) c.share_all.auto.desks c.in_ok-slots.ensures

pub returns-clause-of_this_hall : goal.returns-clause-of_this_hall
returns-clause-of_this_hall g c = all_sit _ _ (returns-clause-desks g c)
