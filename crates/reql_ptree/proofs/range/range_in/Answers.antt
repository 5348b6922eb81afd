use Rattle.std.proofs.Common.{arith}
use Rattle.reql_ptree.proofs.Gathering.{whole_spends}
use Rattle.reql_ptree.proofs.range.range_in.Goals as goal

pub returns-in_err-gather-clause-counted : goal.returns-in_err-gather-clause-counted
returns-in_err-gather-clause-counted g c = omega (arith, whole_spends c.height-facts.ensures.grown c.gather.ensures.counted)

pub returns-clause-counted : goal.returns-clause-counted
returns-clause-counted g c = omega (arith, whole_spends c.height-facts.ensures.grown c.gather.ensures.counted)
