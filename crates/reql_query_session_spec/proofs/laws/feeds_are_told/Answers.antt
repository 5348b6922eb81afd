use Rattle.reql_session_spec.proofs.Beginning as beginning
use Rattle.reql_session_spec.proofs.Continuing as continuing
use Rattle.reql_session_spec.proofs.Endings as endings
use Rattle.reql_session_spec.proofs.Opened as opened
use Rattle.reql_session_spec.proofs.Owed as owed
use Rattle.reql_session_spec.proofs.Printed as printed
use Rattle.reql_query_session_spec.specs.Told.{talk, comes_by}
use Rattle.reql_query_session_spec.specs.Minding.{plans_are_told}
use Rattle.reql_query_session_spec.proofs.laws.feeds_are_told.Goals as goal

pub returns-clause-opened : goal.returns-clause-opened
returns-clause-opened c = λ keys limits. opened.each_is_opened (talk keys limits)

pub returns-clause-continues : goal.returns-clause-continues
returns-clause-continues c = λ keys limits. continuing.each_continues (talk keys limits)

pub returns-clause-kept_back : goal.returns-clause-kept_back
returns-clause-kept_back c = λ keys limits. owed.nothing_kept_back (talk keys limits) (comes_by limits) (plans_are_told keys limits)

pub returns-clause-told : goal.returns-clause-told
returns-clause-told c = λ keys limits. printed.feeds_are_told (talk keys limits) (comes_by limits) (plans_are_told keys limits)

pub returns-clause-of_feeds : goal.returns-clause-of_feeds
returns-clause-of_feeds c = λ keys limits. printed.batches_are_of_feeds (talk keys limits) (comes_by limits) (plans_are_told keys limits)

pub returns-clause-takes : goal.returns-clause-takes
returns-clause-takes c = λ keys limits. printed.takes_are_of_feeds (talk keys limits) (comes_by limits) (plans_are_told keys limits)

pub returns-clause-said : goal.returns-clause-said
returns-clause-said c = λ keys limits. printed.all_is_said (talk keys limits) (comes_by limits) (plans_are_told keys limits)

pub returns-clause-begins : goal.returns-clause-begins
returns-clause-begins c = λ keys limits. beginning.each_begins (talk keys limits)

pub returns-clause-opens : goal.returns-clause-opens
returns-clause-opens c = λ keys limits. endings.feeds_open (talk keys limits)

pub returns-clause-ends : goal.returns-clause-ends
returns-clause-ends c = λ keys limits. endings.feeds_end (talk keys limits) (comes_by limits) (plans_are_told keys limits)

pub returns-clause-sent : goal.returns-clause-sent
returns-clause-sent c = λ keys limits. owed.all_is_sent (talk keys limits) (comes_by limits) (plans_are_told keys limits)

pub returns-clause-full : goal.returns-clause-full
returns-clause-full c = λ keys limits. printed.batches_are_full (talk keys limits) (comes_by limits) (plans_are_told keys limits)
