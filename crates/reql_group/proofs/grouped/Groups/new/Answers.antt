use Rattle.reql_group.proofs.Rise.{none_rise}
use Rattle.reql_group.proofs.grouped.Groups.new.Goals as goal

pub invariant_of-result : goal.invariant_of-result
invariant_of-result c = none_rise
