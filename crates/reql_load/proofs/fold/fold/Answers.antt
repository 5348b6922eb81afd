use Rattle.std.proofs.Common.{◌∙◌}
use Rattle.reql_load.proofs.Places.{skipped, by_bag, by_list}
use Rattle.reql_load.proofs.fold.fold.Goals as goal

pub returns-then-has_skip : goal.returns-then-has_skip
returns-then-has_skip c = skipped c.args.opening.now c.args.items.now c.has_skip.result c.has_skip.ensures c.if-has_skip.true

pub returns-then-lack_offsets : goal.returns-then-lack_offsets
returns-then-lack_offsets c =
    c.in_ok-bag.ensures ∙ by_bag c.args.opening.now c.args.items.now c.has_skip.result c.lack_offsets.result c.has_skip.ensures c.if-has_skip.false c.lack_offsets.ensures c.if-lack_offsets.true

pub returns : goal.returns
returns c =
    c.in_ok-list.ensures
    ∙ by_list c.args.opening.now _ c.args.items.now c.has_skip.result c.lack_offsets.result c.has_skip.ensures c.if-has_skip.false c.lack_offsets.ensures c.if-lack_offsets.false c.in_ok-values.ensures
