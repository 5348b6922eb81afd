use Rattle.reql_wire.proofs.Greetings.{cut_kept, cut_greets, more_short}
use Rattle.reql_wire.proofs.greeting_laws.greeting_is_cut.Goals as goal

pub returns-clause-kept : goal.returns-clause-kept
returns-clause-kept c = cut_kept

pub returns-clause-verdict : goal.returns-clause-verdict
returns-clause-verdict c = cut_greets

pub returns-clause-more : goal.returns-clause-more
returns-clause-more c = more_short
