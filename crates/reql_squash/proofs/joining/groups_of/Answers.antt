use Rattle.std.proofs.Common.{List, ap, ◌∙◌}
use Rattle.std.specs.List.{zip}
use Rattle.reql_datum.specs.Plain.{Plain}
use Rattle.reql_rules.specs.Grouping.{gather}
use Rattle.reql_squash.specs.Told.{groups_net}
use Rattle.reql_squash.proofs.Groups.{range_net_is}
use Rattle.reql_squash.proofs.joining.groups_of.Goals as goal

pub returns : goal.returns
returns c =
    ap groups_net c.in_ok-groups.ensures
    ∙ ap (λ (ks : List Plain). groups_net (gather (zip ks c.in_ok-inners.inners))) c.in_ok-keys.ensures
    ∙ range_net_is c.args.items.now c.in_ok-inners.inners c.in_ok-inners.ensures
