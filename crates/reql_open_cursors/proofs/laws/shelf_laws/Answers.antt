use Rattle.reql_open_cursors.proofs.Keeping.{opens_cursor, opens_feed, closes, goes_on, goes_on_with}
use Rattle.reql_open_cursors.proofs.laws.shelf_laws.Goals as goal

pub returns-clause-cursor : goal.returns-clause-cursor
returns-clause-cursor c b x apart off = opens_cursor b x apart off

pub returns-clause-feed : goal.returns-clause-feed
returns-clause-feed c b f apart off = opens_feed b f apart off

pub returns-clause-closed : goal.returns-clause-closed
returns-clause-closed c b t apart = closes b t apart

pub returns-clause-rest : goal.returns-clause-rest
returns-clause-rest c b t rest apart = goes_on b t rest apart

pub returns-clause-left : goal.returns-clause-left
returns-clause-left c b t left apart = goes_on_with b t left apart
