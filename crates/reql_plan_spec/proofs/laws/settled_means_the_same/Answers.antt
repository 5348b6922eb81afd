use Rattle.reql_plan_spec.proofs.Settling as settling
use Rattle.reql_plan_spec.proofs.Stacked as stacked
use Rattle.reql_plan_spec.proofs.laws.settled_means_the_same.Goals as goal

pub returns-clause-terms : goal.returns-clause-terms
returns-clause-terms c = settling.settled_means_the_same

pub returns-clause-feeds : goal.returns-clause-feeds
returns-clause-feeds c = stacked.feeds_mean_the_same
