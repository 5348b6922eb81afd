use Rattle.reql_wire.proofs.Greetings.{accepted_by, spelled}
use Rattle.reql_wire.proofs.greeting_laws.one_greeting_by_a_key.Goals as goal

pub returns-clause-accepted : goal.returns-clause-accepted
returns-clause-accepted c = accepted_by

pub returns-clause-spelled : goal.returns-clause-spelled
returns-clause-spelled c = spelled
