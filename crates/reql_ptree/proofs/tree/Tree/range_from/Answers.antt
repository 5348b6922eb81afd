use Rattle.std.proofs.Common.{length, sym, ap, ◌∙◌, arith}
use Rattle.reql_datum.specs.View.{plain}
use Rattle.reql_ptree.proofs.Gathering.{ok_values}
use Rattle.reql_ptree.proofs.Ranks.{from_there, from_past, from_none}
use Rattle.reql_ptree.proofs.tree.Tree.range_from.Goals as goal

pub returns-in_default-clause-values : goal.returns-in_default-clause-values
returns-in_default-clause-values g c =
    c.new.ensures
    ∙ from_past (plain c.args.low.now) c.args.low_open (plain c.args.high.now) c.args.high_open c.args.self.now c.rising-rises.ensures c.count_below-before.result c.args.from c.args.most
    c.count_below-before.ensures.found (omega (arith, c.in_default.ensures, c.len-all.ensures, c.len-all.type_inv))

pub returns-in_default-at-clause-values : goal.returns-in_default-at-clause-values
returns-in_default-at-clause-values g c =
    c.new-in_default-at.ensures
    ∙ from_none (plain c.args.low.now) c.args.low_open (plain c.args.high.now) c.args.high_open c.args.self.now c.rising-rises.ensures c.count_below-before.result c.args.from c.args.most
    c.count_below-before.ensures.found c.in-Some.place c.in-Some.ensures.1 (sym c.in_default-at.ensures.found)

pub returns-clause-values : goal.returns-clause-values
returns-clause-values g c =
    ok_values c.range_first.result _ _ c.range_first.ensures.values
    (from_there (plain c.args.low.now) c.args.low_open (plain c.args.high.now) c.args.high_open c.args.self.now c.rising-rises.ensures c.count_below-before.result c.args.from c.args.most
    c.count_below-before.ensures.found c.in-Some.place (plain c.in-Some-at.key.now, plain c.in-Some-at.field-0-1.now) c.in-Some.ensures.1 (sym c.in-Some-at.ensures.found))

pub returns-clause-counted : goal.returns-clause-counted
returns-clause-counted g c =
    let same = from_there (plain c.args.low.now) c.args.low_open (plain c.args.high.now) c.args.high_open c.args.self.now c.rising-rises.ensures c.count_below-before.result c.args.from c.args.most
    c.count_below-before.ensures.found c.in-Some.place (plain c.in-Some-at.key.now, plain c.in-Some-at.field-0-1.now) c.in-Some.ensures.1 (sym c.in-Some-at.ensures.found) in
    omega (arith, c.range_first.ensures.counted, c.in-Some-at.ensures.counted, c.count_below-before.ensures.counted, ap length same)
