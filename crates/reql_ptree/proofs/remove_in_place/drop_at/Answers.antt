use Rattle.std.proofs.Common.{◌≡◌, ◌<◌, length, get_or, map, sym, ap, ◌∙◌, subst, arith}
use Rattle.std.specs.Map.{keys_of}
use Rattle.reql_datum.specs.Order.{order}
use Rattle.reql_memory.specs.Sorted.{IsHitBy}
use Rattle.reql_datum.specs.View.{plain}
use Rattle.reql_ptree.specs.Chunk.{pair, IsHeld}
use Rattle.reql_ptree.proofs.RemoveInPlace.{has_two, held_later, held_next}
use Rattle.reql_ptree.proofs.remove_in_place.drop_at.Goals as goal

pub returns-then-place-gt0-clause-held : goal.returns-then-place-gt0-clause-held
returns-then-place-gt0-clause-held c =
    let two : 1 < length c.args.all.now.items = subst (λ t. 1 < length t) c.deref.ensures.value (has_two (length c.deref.result.now) c.in-Some.ensures.lookup.0) in
    held_later (plain c.args.key.now) c.args.all.now.items c.drop_pair.new.all.items c.requires.held.chunk two c.drop_pair.ensures.pairs c.drop_pair.ensures.length
    (plain c.args.first.now) c.args.place c.requires.held.first_is (omega (arith, c.if-place-gt0.true)) c.requires.hit

pub returns-clause-held : goal.returns-clause-held
returns-clause-held c =
    let two : 1 < length c.args.all.now.items = subst (λ t. 1 < length t) c.deref.ensures.value (has_two (length c.deref.result.now) c.in-Some.ensures.lookup.0) in
    let there : c.in-Some.next.now ≡ get_or c.args.all.now.items 1 c.in-Some.next.now = subst (λ t. c.in-Some.next.now ≡ get_or t 1 c.in-Some.next.now) c.deref.ensures.value c.in-Some.ensures.lookup.1 in
    let zero_is : c.args.place ≡ 0 = omega (arith, c.if-place-gt0.false) in
    let hit : IsHitBy order (keys_of (map pair c.args.all.now.items)) (plain c.args.key.now) 0 = subst (IsHitBy order (keys_of (map pair c.args.all.now.items)) (plain c.args.key.now)) zero_is c.requires.hit in
    let key_is : plain c.replace.new.dest ≡ plain c.in-Some.next.now.key = ap plain (c.replace.ensures.after ∙ c.in-Ok.ensures) in
    subst (λ k. IsHeld k (map pair c.drop_pair-2.new.all.items)) (sym key_is)
    (held_next (plain c.args.key.now) c.args.all.now.items c.drop_pair-2.new.all.items c.requires.held.chunk two c.drop_pair-2.ensures.pairs c.drop_pair-2.ensures.length
    c.in-Some.next.now there hit)
