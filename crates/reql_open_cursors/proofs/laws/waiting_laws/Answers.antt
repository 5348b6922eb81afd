use Rattle.reql_open_cursors.proofs.Quiet.{quiet_dropping, quiet_left, quiet_closed, quiet_elsewhere, quiet_feed, quiet_waits, quiet_again, none_waits, quiet_without}
use Rattle.reql_open_cursors.proofs.laws.waiting_laws.Goals as goal

pub returns-clause-dropping : goal.returns-clause-dropping
returns-clause-dropping c fs ws t ts q = quiet_dropping fs ws t ts q

pub returns-clause-left : goal.returns-clause-left
returns-clause-left c fs t left ts off q = quiet_left fs t left ts off q

pub returns-clause-closed : goal.returns-clause-closed
returns-clause-closed c fs t ts q = quiet_closed fs t ts q

pub returns-clause-elsewhere : goal.returns-clause-elsewhere
returns-clause-elsewhere c fs t ts off q = quiet_elsewhere fs t ts off q

pub returns-clause-feed : goal.returns-clause-feed
returns-clause-feed c fs f ts q = quiet_feed fs f ts q

pub returns-clause-waits : goal.returns-clause-waits
returns-clause-waits c fs t ts q off quiet = quiet_waits fs t ts q off quiet

pub returns-clause-again : goal.returns-clause-again
returns-clause-again c fs ws t ts q = quiet_again fs ws t ts q

pub returns-clause-none_waits : goal.returns-clause-none_waits
returns-clause-none_waits c t ts off = none_waits t ts off

pub returns-clause-without : goal.returns-clause-without
returns-clause-without c fs t ts q = quiet_without fs t ts q
