use Rattle.std.proofs.Common.{◌≡◌, List, ◌++◌, IfOk, subst, sym}
use Rattle.reql_feed_spec.specs.Items.{Difference}
use Rattle.reql_squash.specs.Told.{items_seen, told}
use Rattle.reql_squash.proofs.Walks.{group_is}
use Rattle.reql_squash.proofs.joining.tell_group.Goals as goal

pub returns-in-List : goal.returns-in-List
returns-in-List c =
    subst (λ (ds : List Difference). IfOk c.tell_members.result (λ x. items_seen c.tell_members.new.out.items ≡ items_seen c.args.out.now.items ++ told c.args.printer.now.stamp c.args.printer.now.types ds))
    (group_is c.args.members.now c.in-List.items (sym c.in-List.is)) c.tell_members.ensures
