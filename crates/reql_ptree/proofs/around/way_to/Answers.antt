use Rattle.std.proofs.Common.{sym, ◌∙◌, arith}
use Rattle.reql_datum.specs.View.{plain}
use Rattle.reql_ptree.proofs.Ways.{way_start, way_right, way_left, passed_fits}
use Rattle.reql_ptree.proofs.around.way_to.Goals as goal

pub loop-node-init : goal.loop-node-init
loop-node-init g c = record { way = way_start _ _ _ _; counted = omega arith }

pub loop-node-preserved-then-is_behind : goal.loop-node-preserved-then-is_behind
loop-node-preserved-then-is_behind g c = record {
  way = rw (c.len.ensures, c.len-then-is_behind.ensures) (way_right c.loop-node.invariant.way c.in-Some.ensures (plain c.first.result.now) c.first.ensures.first (sym c.is_behind.ensures ∙ c.if-is_behind.true));
  counted = omega (arith, c.loop-node.invariant.counted, c.tick.ensures.at_most_one, c.in-Some.ensures.node.high);
}

pub loop-node-preserved : goal.loop-node-preserved
loop-node-preserved g c = record {
  way = way_left c.loop-node.invariant.way c.in-Some.ensures (plain c.first.result.now) c.first.ensures.first (sym c.is_behind.ensures ∙ c.if-is_behind.false);
  counted = omega (arith, c.loop-node.invariant.counted, c.tick.ensures.at_most_one, c.in-Some.ensures.node.high);
}

pub overflow_add-passed : goal.overflow_add-passed
overflow_add-passed g c = omega (arith, passed_fits c.loop-node.invariant.way c.in-Some.ensures, c.len-facts.ensures, c.len-facts.type_inv, c.len.ensures)
