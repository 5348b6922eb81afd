use Rattle.std.proofs.Common.{arith}
use Rattle.reql_datum.specs.View.{plain}
use Rattle.reql_ptree.proofs.Tall.{reach_none}
use Rattle.reql_ptree.proofs.Found.{count_way, count_cut, way_none, way_some, reach_below}
use Rattle.reql_ptree.proofs.look.count_in.Goals as goal

pub returns-in-None-clause-found : goal.returns-in-None-clause-found
returns-in-None-clause-found g c = omega (arith, count_way _ _ _ _ _ _ _ (way_none _ c.way_to-around.ensures.way c.in-None.is) c.height-facts.ensures.rising)

pub returns-in-None-clause-counted : goal.returns-in-None-clause-counted
returns-in-None-clause-counted g c = omega (arith, reach_none _ _ c.height-facts.ensures.grown, c.way_to-around.ensures.counted)

pub returns-in-Some-clause-found : goal.returns-in-Some-clause-found
returns-in-Some-clause-found g c =
    let way = way_some _ c.way_to-around.ensures.way c.in-Some.chunk c.in-Some.is in
    omega (arith, count_way _ _ _ _ _ _ _ way c.height-facts.ensures.rising, count_cut (plain c.args.key.now) c.args.at c.in-Some.chunk.now c.chunk_cut.result c.chunk_cut.ensures.cut, c.len.ensures)

pub returns-in-Some-clause-counted : goal.returns-in-Some-clause-counted
returns-in-Some-clause-counted g c =
    let way = way_some _ c.way_to-around.ensures.way c.in-Some.chunk c.in-Some.is in
    omega (arith, reach_below way c.chunk_cut.ensures.chunk.some c.chunk_cut.ensures.chunk.few, c.way_to-around.ensures.counted, c.chunk_cut.ensures.counted)
