use Rattle.std.proofs.Common.{sym, ◌∙◌}
use Rattle.reql_squash.proofs.Walks.{bare_is}
use Rattle.reql_squash.proofs.joining.members_of.Goals as goal

pub returns : goal.returns
returns c = c.in_ok-members.ensures ∙ sym (bare_is c.args.items.now)
