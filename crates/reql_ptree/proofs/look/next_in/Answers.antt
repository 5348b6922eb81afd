use Rattle.std.proofs.Common.{slice_get, sym, ap, ◌∙◌, arith}
use Rattle.std.specs.Option.{option_or}
use Rattle.reql_ptree.specs.Way.{pairs_in}
use Rattle.reql_ptree.proofs.Tall.{reach_none}
use Rattle.reql_ptree.proofs.Found.{next_way, way_some, reach_below}
use Rattle.reql_ptree.proofs.look.next_in.Goals as goal

pub returns-in_default-clause-counted : goal.returns-in_default-clause-counted
returns-in_default-clause-counted g c = omega (arith, reach_none _ _ c.height-facts.ensures.grown, c.way_to-around.ensures.counted)

pub returns-in-None-clause-found : goal.returns-in-None-clause-found
returns-in-None-clause-found g c =
    let way = way_some _ c.way_to-around.ensures.way c.in-Some.chunk c.in-Some.is in
    c.first_pair-in-None.ensures ∙ sym (next_way _ _ _ _ _ _ _ way c.height-facts.ensures.rising ∙ ap (λ o. option_or o (slice_get (pairs_in c.way_to-around.result.above) 0)) (sym c.in-None.ensures.found))

pub returns-in-None-clause-counted : goal.returns-in-None-clause-counted
returns-in-None-clause-counted g c =
    let way = way_some _ c.way_to-around.ensures.way c.in-Some.chunk c.in-Some.is in
    omega (arith, reach_below way c.in-None.ensures.chunk.some c.in-None.ensures.chunk.few, c.way_to-around.ensures.counted, c.in-None.ensures.counted)

pub returns-in-Some-chunk_next-clause-found : goal.returns-in-Some-chunk_next-clause-found
returns-in-Some-chunk_next-clause-found g c =
    let way = way_some _ c.way_to-around.ensures.way c.in-Some.chunk c.in-Some.is in
    sym (next_way _ _ _ _ _ _ _ way c.height-facts.ensures.rising ∙ ap (λ o. option_or o (slice_get (pairs_in c.way_to-around.result.above) 0)) (sym c.in-Some-chunk_next.ensures.found))

pub returns-in-Some-chunk_next-clause-counted : goal.returns-in-Some-chunk_next-clause-counted
returns-in-Some-chunk_next-clause-counted g c =
    let way = way_some _ c.way_to-around.ensures.way c.in-Some.chunk c.in-Some.is in
    omega (arith, reach_below way c.in-Some-chunk_next.ensures.chunk.some c.in-Some-chunk_next.ensures.chunk.few, c.way_to-around.ensures.counted, c.in-Some-chunk_next.ensures.counted)
