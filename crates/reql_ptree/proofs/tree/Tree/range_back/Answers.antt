use Rattle.std.proofs.Common.{◌-◌, false, length, sym, ap, ◌∙◌, arith}
use Rattle.reql_datum.specs.View.{plain}
use Rattle.reql_ptree.specs.Range.{range_of}
use Rattle.reql_ptree.proofs.Gathering.{ok_values}
use Rattle.reql_ptree.proofs.Ranks.{back_there, back_past, back_none, as_many_back}
use Rattle.reql_ptree.proofs.tree.Tree.range_back.Goals as goal

pub returns-then-from-through-clause-values : goal.returns-then-from-through-clause-values
returns-then-from-through-clause-values g c =
    c.new.ensures
    ∙ back_past (plain c.args.low.now) c.args.low_open (plain c.args.high.now) c.args.high_open c.args.self.now c.rising-rises.ensures c.count_below-through.result c.args.from c.args.most
    c.count_below-through.ensures.found (omega (arith, c.if-from-through.true))

pub unreachable-requires : goal.unreachable-requires
unreachable-requires g c =
    back_none (plain c.args.low.now) c.args.low_open (plain c.args.high.now) c.args.high_open c.args.self.now c.rising-rises.ensures c.count_below-through.result c.args.from c.args.most
    c.count_below-through.ensures.found (c.count_below-through.result - c.args.from - 1) (omega (arith, c.if-from-through.false)) (sym c.in_default.ensures.found)

pub returns-clause-values : goal.returns-clause-values
returns-clause-values g c =
    ok_values c.range_last.result _ _ c.range_last.ensures.values
    (back_there (plain c.args.low.now) c.args.low_open (plain c.args.high.now) c.args.high_open c.args.self.now c.rising-rises.ensures c.count_below-through.result c.args.from c.args.most
    c.count_below-through.ensures.found (c.count_below-through.result - c.args.from - 1) (plain c.in-Some.key.now, plain c.in-Some.field-0-1.now) (omega (arith, c.if-from-through.false)) (sym c.in-Some.ensures.found))

pub returns-clause-counted : goal.returns-clause-counted
returns-clause-counted g c =
    let same = back_there (plain c.args.low.now) c.args.low_open (plain c.args.high.now) c.args.high_open c.args.self.now c.rising-rises.ensures c.count_below-through.result c.args.from c.args.most
    c.count_below-through.ensures.found (c.count_below-through.result - c.args.from - 1) (plain c.in-Some.key.now, plain c.in-Some.field-0-1.now) (omega (arith, c.if-from-through.false)) (sym c.in-Some.ensures.found) in
    omega (
      arith,
      c.range_last.ensures.counted,
      c.in-Some.ensures.counted,
      c.count_below-through.ensures.counted,
      ap length same,
      as_many_back c.args.most (range_of (plain c.args.low.now) c.args.low_open (plain c.in-Some.key.now) false c.args.self.now),
    )
