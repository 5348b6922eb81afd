use Rattle.reql_wire.proofs.Greetings.{alone}
use Rattle.reql_wire.proofs.greeting_laws.greeting_is_its_own.Goals as goal

pub returns : goal.returns
returns c = alone
