use Rattle.std.proofs.Common.{rules}
use Rattle.reql_scalar.proofs.Gathered.{rising_gathered, built_on, built_all, none_left}
use Rattle.reql_scalar.proofs.gathering.built.Goals as goal

pub loop-name-init : goal.loop-name-init
loop-name-init c = (search rules, rising_gathered c.args.named.entries c.len.ensures.ordered)

pub loop-name-preserved : goal.loop-name-preserved
loop-name-preserved c =
    let at = c.loop-name in (
      built_on at.fields c.put.new.fields at.named.entries c.pop_first.new.self.entries _ c.in-Some.name c.in-Some.value at.invariant.1 c.in-Some.ensures.removal c.in_ok-put.ensures at.invariant.0,
      at.invariant.1,
    )

pub returns : goal.returns
returns c = built_all c.loop-name.fields c.loop-name.named.entries _ (none_left _ c.in_default.ensures.variant.1) c.loop-name.invariant.0
