use Rattle.std.proofs.Common.{map, ap, ◌∙◌}
use Rattle.reql_table.specs.Seen.{numbered}
use Rattle.reql_table.proofs.Listed.{out_hit, out_gap}
use Rattle.reql_table.proofs.indexes.without_index.Goals as goal

pub returns-in-Ok-clause-numbered : goal.returns-in-Ok-clause-numbered
returns-in-Ok-clause-numbered c =
    let hit = rw c.deref.ensures.value at c.in-Ok.ensures.found in
    ap (map numbered) c.remove.ensures.items ∙ out_hit c.args.indexes.items c.args.name.now c.in-Ok.place hit

pub returns-clause-numbered : goal.returns-clause-numbered
returns-clause-numbered c =
    let gap = rw c.deref.ensures.value at c.in_default.ensures.absent in
    out_gap c.args.indexes.items c.args.name.now c.in_default.field-0 c.requires.rising gap
