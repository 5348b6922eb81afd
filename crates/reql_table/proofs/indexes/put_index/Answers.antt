use Rattle.std.proofs.Common.{map, ap, ◌∙◌}
use Rattle.reql_table.specs.Seen.{numbered}
use Rattle.reql_table.proofs.Listed.{put_hit, put_gap}
use Rattle.reql_table.proofs.indexes.put_index.Goals as goal

pub returns-in-Ok-clause-numbered : goal.returns-in-Ok-clause-numbered
returns-in-Ok-clause-numbered c =
    let hit = rw (c.deref.ensures.value, c.as_str.ensures) at c.in-Ok.ensures.found in
    let within = rw c.deref.ensures.value at c.in-Ok.ensures.in_range in
    put_hit c.args.indexes.items c.in-Ok.place c.index_mut.result.now c.args.index hit within c.index_mut.ensures.value

pub returns-in_default-clause-numbered : goal.returns-in_default-clause-numbered
returns-in_default-clause-numbered c =
    let gap = rw (c.deref.ensures.value, c.as_str.ensures) at c.in-Err.ensures.absent in
    ap (map numbered) c.in_default.ensures.items ∙ put_gap c.args.indexes.items c.in-Err.place c.args.index gap
