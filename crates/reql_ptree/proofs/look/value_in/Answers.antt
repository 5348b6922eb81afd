use Rattle.std.proofs.Common.{sym, ◌∙◌, arith}
use Rattle.reql_ptree.proofs.Tall.{reach_none}
use Rattle.reql_ptree.proofs.Found.{find_way, way_none, way_some, reach_below}
use Rattle.reql_ptree.proofs.look.value_in.Goals as goal

pub returns-in-None-clause-found : goal.returns-in-None-clause-found
returns-in-None-clause-found g c = sym (find_way _ _ _ _ _ _ (way_none _ c.way_to-around.ensures.way c.in-None.is) c.height-facts.ensures.rising)

pub returns-in-None-clause-counted : goal.returns-in-None-clause-counted
returns-in-None-clause-counted g c = omega (arith, reach_none _ _ c.height-facts.ensures.grown, c.way_to-around.ensures.counted)

pub returns-in-Some-clause-found : goal.returns-in-Some-clause-found
returns-in-Some-clause-found g c = c.chunk_value.ensures.found ∙ sym (find_way _ _ _ _ _ _ (way_some _ c.way_to-around.ensures.way c.in-Some.chunk c.in-Some.is) c.height-facts.ensures.rising)

pub returns-in-Some-clause-counted : goal.returns-in-Some-clause-counted
returns-in-Some-clause-counted g c =
    let way = way_some _ c.way_to-around.ensures.way c.in-Some.chunk c.in-Some.is in
    omega (arith, reach_below way c.chunk_value.ensures.chunk.some c.chunk_value.ensures.chunk.few, c.way_to-around.ensures.counted, c.chunk_value.ensures.counted)
