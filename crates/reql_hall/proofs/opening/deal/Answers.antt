use Rattle.std.proofs.Common.{◌≡◌, length, rules, arith}
use Rattle.reql_hall.proofs.Dealing.{deals_none, deals_one, deals_all}
use Rattle.reql_hall.proofs.opening.deal.Goals as goal

pub loop-pass-init : goal.loop-pass-init
loop-pass-init g c = deals_none _ _ c.requires.count

pub loop-pass-preserved : goal.loop-pass-preserved
loop-pass-preserved g c =
    let n : c.len.result ≡ length c.pop.new.self.items = search rules in
    deals_one _ _ _ _ c.in-Some.pass _ c.len.result _ _ c.loop-pass.invariant c.in-Some.ensures.items n c.in_ok-gain.ensures

pub returns : goal.returns
returns g c = deals_all _ _ _ _ c.loop-pass.invariant (omega (arith, c.in_default.ensures.cases.0, c.loop-pass.passes.ok))
