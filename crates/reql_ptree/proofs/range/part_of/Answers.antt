use Rattle.reql_ptree.proofs.Gathered.{part_is}
use Rattle.reql_ptree.proofs.range.part_of.Goals as goal

pub returns : goal.returns
returns c = part_is c.args.pairs.now c.args.from c.args.to c.if-from-to.false
