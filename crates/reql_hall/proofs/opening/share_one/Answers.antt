use Rattle.reql_hall.proofs.Dealing.{shares_one}
use Rattle.reql_hall.proofs.opening.share_one.Goals as goal

pub returns : goal.returns
returns g c =
    let s = c.in_ok-shared.ensures in
    shares_one _ _ _ _ _ _ c.in_ok-shared.passes.items c.in_ok-shared.shared s.start s.count s.passes c.in-Ok.ensures.items c.requires.count c.in_ok-deal.ensures
