use Rattle.reql_term.proofs.Numbers.{numbered, named, byte}
use Rattle.reql_term.proofs.laws.op_laws.Goals as goal

pub returns : goal.returns
returns c = record { numbered = numbered; named = named; byte = byte }
