use Rattle.std.proofs.Common.{◌≡◌, arith, sym, ap, ◌∙◌, subst}
use Rattle.std.specs.Map.{keys_of}
use Rattle.std.proofs.Common.{map}
use Rattle.reql_datum.specs.Order.{order}
use Rattle.reql_memory.specs.Sorted.{IsGapBy}
use Rattle.reql_datum.specs.View.{plain}
use Rattle.reql_ptree.specs.Chunk.{pair, IsHeld}
use Rattle.reql_ptree.proofs.InPlace.{held_here, held_later}
use Rattle.reql_ptree.proofs.in_place.insert_at.Goals as goal

pub returns-then-place-gt0-clause-held : goal.returns-then-place-gt0-clause-held
returns-then-place-gt0-clause-held c =
    held_later (plain c.args.first.now) (plain c.args.key.now) (plain c.args.value.now) c.args.all.now.items c.insert_pair.new.all.items c.requires.held c.args.place c.insert_pair.result
    c.insert_pair.ensures.pairs (omega arith) c.insert_pair.ensures.some c.insert_pair.ensures.length (omega arith) c.requires.gap

pub returns-then-insert_pair-clause-held : goal.returns-then-insert_pair-clause-held
returns-then-insert_pair-clause-held c =
    let zero_is : c.args.place ≡ 0 = omega arith in
    let gap : IsGapBy order (keys_of (map pair c.args.all.now.items)) (plain c.args.key.now) 0 = subst (IsGapBy order (keys_of (map pair c.args.all.now.items)) (plain c.args.key.now)) zero_is c.requires.gap in
    let key_is : plain c.replace.new.dest ≡ plain c.args.key.now = ap plain (c.replace.ensures.after ∙ c.in-Ok.ensures) in
    let pairs = rw c.if-insert_pair.true at c.insert_pair-2.ensures.pairs in
    subst (λ k. IsHeld k (map pair c.insert_pair-2.new.all.items)) (sym key_is)
    (held_here (plain c.args.first.now) (plain c.args.key.now) (plain c.args.value.now) c.args.all.now.items c.insert_pair-2.new.all.items c.requires.held
    pairs (omega arith) c.insert_pair-2.ensures.some c.insert_pair-2.ensures.length gap)
