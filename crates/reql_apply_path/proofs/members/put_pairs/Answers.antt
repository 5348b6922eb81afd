use Rattle.std.proofs.Common.{◌∙◌, ap, sym, Ok, rules, arith}
use Rattle.reql_operand.specs.Seen.{shown}
use Rattle.reql_apply_path.proofs.Walked.{put_step, put_fails, put_done}
use Rattle.reql_apply_path.proofs.members.put_pairs.Goals as goal

pub returns-in_err-put_pair : goal.returns-in_err-put_pair
returns-in_err-put_pair c w =
    let fails = put_fails (shown w) c.loop-rest.rest.now c.name-item.result c.value-item.result c.loop-rest.object _ c.in-len2-up.len_at_least c.name-item.is c.value-item.is
    (c.loop-rest.invariant w) c.in_err-put_pair.field-0.0 (c.in_err-put_pair.ensures w) in
    search (rules, fails)

pub loop-rest-preserved : goal.loop-rest-preserved
loop-rest-preserved c w =
    put_step (shown w) c.loop-rest.rest.now c.name-item.result c.value-item.result c.loop-rest.object _ c.in-len2-up.len_at_least c.name-item.is c.value-item.is
    (c.loop-rest.invariant w) c.put_pair.new.object (c.in_ok-put_pair.ensures w)

pub returns : goal.returns
returns c w = put_done (shown w) c.loop-rest.rest.now c.loop-rest.object _ (omega (arith, c.in_default.len_below)) (c.loop-rest.invariant w) ∙ ap Ok (sym c.in_ok-fields.ensures)
