use Rattle.std.proofs.Common.{arith}
use Rattle.reql_json.proofs.Symbols.{bytes_from}
use Rattle.reql_json.proofs.show.binary_value.Goals as goal

pub returns-in-Ok-json-4-clause-in_range : goal.returns-in-Ok-json-4-clause-in_range
returns-in-Ok-json-4-clause-in_range c = bytes_from c.args.bytes.now (λ i. let typed = c.type_inv.bytes i in omega arith)
