use Rattle.reql_squash.proofs.Walks.{parted_net}
use Rattle.reql_squash.proofs.joining.parted_of.Goals as goal

pub returns : goal.returns
returns c = parted_net c.args.members.now c.in_ok-left.left c.in_ok-came.came c.in_ok-olds.olds c.in_ok-news.news c.in_ok-parted.parted.left c.in_ok-parted.parted.came
    c.in_ok-left.ensures c.in_ok-came.ensures c.in_ok-olds.ensures.items c.in_ok-news.ensures.items c.in_ok-parted.ensures.left c.in_ok-parted.ensures.came
