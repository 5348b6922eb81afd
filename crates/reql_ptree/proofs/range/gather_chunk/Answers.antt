use Rattle.std.proofs.Common.{◌≡◌, ◌-◌, ◌++◌, [], List, Option, length, map, take, IfOk, option_map, sym, ap, ◌∙◌, subst, arith}
use denote.Ref.{Bor}
use Rattle.std.proofs.lemmas.List.{length-map}
use Rattle.reql_datum.specs.Plain.{Plain}
use Rattle.reql_ptree.specs.Chunk.{pair}
use Rattle.reql_ptree.specs.Ends.{cut_seen, between, given}
use Rattle.reql_ptree.specs.Gather.{Spends, Waits}
use Rattle.reql_ptree.specs.Way.{pairs_in}
use Rattle.reql_ptree.proofs.Gathered.{between_places, chunk_spends}
use Rattle.reql_ptree.proofs.range.gather_chunk.Goals as goal

pub returns-clause-values : goal.returns-clause-values
returns-clause-values g c =
    let low = option_map cut_seen c.args.range.now.low in
    let high = option_map cut_seen c.args.range.now.high in
    let is : between low high (pairs_in c.args.waiting) ≡ map pair c.part_of.result.now =
    ap (λ (o : Option (Bor (List (Plain × Plain)))). between low high (pairs_in o)) c.in-Some.is
    ∙ ap (between low high) (sym c.pairs-pairs.ensures.pairs)
    ∙ between_places low high (map pair c.pairs-pairs.result.now) c.low_place-from.result c.high_place-to.result c.low_place-from.ensures.from c.high_place-to.ensures.to
    ∙ sym c.part_of.ensures in
    subst (λ t. IfOk c.give_part.result (λ _. c.give_part.new.out ≡ take c.args.range.now.most (c.args.out.now ++ given c.args.range.now.falling t))) (sym is) c.give_part.ensures

pub returns-clause-counted : goal.returns-clause-counted
returns-clause-counted g c =
    let low = option_map cut_seen c.args.range.now.low in
    let high = option_map cut_seen c.args.range.now.high in
    let waits : Waits c.args.range.now c.in-Some.chunk.now = subst (λ (o : Option (Bor (List (Plain × Plain)))). Waits c.args.range.now (pairs_in o)) c.in-Some.is c.requires.opens in
    subst (λ (o : Option (Bor (List (Plain × Plain)))). Spends c.args.range.now (pairs_in o) [] 0 c.args.out.now c.args.steps.now c.high_place-to.new.steps) (sym c.in-Some.is)
    (chunk_spends c.args.range.now.falling low high c.in-Some.chunk.now (c.args.range.now.most - length c.args.out.now) (length c.pairs-pairs.result.now) c.args.steps.now c.high_place-to.new.steps
    c.pairs-pairs.ensures.chunk.few (omega (arith, c.requires.room)) waits (sym (length-map c.pairs-pairs.result.now pair) ∙ ap length c.pairs-pairs.ensures.pairs) (omega (arith, c.low_place-from.ensures.counted, c.high_place-to.ensures.counted)))
