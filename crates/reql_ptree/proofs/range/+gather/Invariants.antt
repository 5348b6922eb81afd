use Rattle.reql_ptree.proofs.range.+gather.Given as goal

abbrev pub decreases-gather : goal.decreases-gather
decreases-gather g l = l.side.now.1
