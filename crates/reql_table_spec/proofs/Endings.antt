-- The feeds that are open after a command, what an Unsubscribe is answered, and what a look tells, of tables of documents.
use Rattle.std.proofs.Common.{◌≡◌, ℕ, sym, subst}
use Rattle.reql_table_machine_spec.specs.Feeds.{answer}
use Rattle.reql_table_machine_spec.specs.Ending.{MayClose}
use Rattle.reql_table_machine_spec.proofs.Ending.{feeds_come_and_go, unsubscribes_are_told, looks_tell_the_table}
use Rattle.reql_table_spec.specs.Laws.{FeedsComeAndGo, UnsubscribesAreTold, LooksTellTheTable}
use Rattle.reql_table_spec.specs.Machine.{State, known_cmd}
use Rattle.reql_table_spec.specs.Table.{feeding}
use Rattle.reql_table_spec.specs.declared.command.Cmd.{Cmd}

pub feeds_come : FeedsComeAndGo
feeds_come s by order = feeds_come_and_go (feeding s.most) s.table by (known_cmd order.cmd)

pub unsubscribes_told : UnsubscribesAreTold
unsubscribes_told s by feed order e = subst (λ (c : Cmd). MayClose (feeding s.most) s.table by feed (answer (feeding s.most) s.table by (known_cmd c))) (sym e) (unsubscribes_are_told (feeding s.most) s.table by feed)

pub looks_tell : LooksTellTheTable
looks_tell s = looks_tell_the_table (feeding s.most) s.table
