use Rattle.std.proofs.Common.{ap, ◌∙◌}
use Rattle.reql_datum.specs.View.{plain}
use Rattle.reql_ptree.specs.Range.{range_of}
use Rattle.reql_ptree.proofs.Gathering.{range_all, ok_values}
use Rattle.reql_ptree.proofs.tree.Tree.range.Goals as goal

pub returns-clause-values : goal.returns-clause-values
returns-clause-values g c =
    ok_values c.range_in.result _ (range_of (plain c.args.low.now) c.args.low_open (plain c.args.high.now) c.args.high_open c.args.self.now) c.range_in.ensures.values
    (range_all (plain c.args.low.now) c.args.low_open (plain c.args.high.now) c.args.high_open c.self.inside.top.0 c.len.result c.len.ensures
    ∙ ap (range_of (plain c.args.low.now) c.args.low_open (plain c.args.high.now) c.args.high_open) c.self.view_is)
