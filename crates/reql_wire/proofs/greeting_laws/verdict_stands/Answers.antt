use Rattle.reql_wire.proofs.Greetings.{stands}
use Rattle.reql_wire.proofs.greeting_laws.verdict_stands.Goals as goal

pub returns : goal.returns
returns c = stands
