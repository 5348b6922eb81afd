use Rattle.reql_open_cursors.proofs.There.{there_none, there_feed, there_closed, there_left, there_found, there_all, there_meant, there_coded}
use Rattle.reql_open_cursors.proofs.laws.slot_laws.Goals as goal

pub returns-clause-at_first : goal.returns-clause-at_first
returns-clause-at_first c n = there_none n

pub returns-clause-feed : goal.returns-clause-feed
returns-clause-feed c n fs f all here = there_feed n fs f all here

pub returns-clause-closed : goal.returns-clause-closed
returns-clause-closed c n t fs all = there_closed n t fs all

pub returns-clause-left : goal.returns-clause-left
returns-clause-left c n t left fs all = there_left n t left fs all

pub returns-clause-found : goal.returns-clause-found
returns-clause-found c n t fs f is all = there_found n t fs f is all

pub returns-clause-all : goal.returns-clause-all
returns-clause-all c n fs all = there_all n fs all

pub returns-clause-meant : goal.returns-clause-meant
returns-clause-meant c n xs all = there_meant n xs all

pub returns-clause-coded : goal.returns-clause-coded
returns-clause-coded c n xs all = there_coded n xs all
