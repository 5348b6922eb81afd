use Rattle.reql_squash.proofs.Walks.{groups_on}
use Rattle.reql_squash.proofs.joining.tell_groups.Goals as goal

pub loop-members-preserved : goal.loop-members-preserved
loop-members-preserved c = groups_on c.args.printer.now.stamp c.args.printer.now.types _ c.loop-members.place c.args.groups.now _ _ _ c.in-Some.ensures.rest c.in_ok-tell_group.ensures c.loop-members.invariant
