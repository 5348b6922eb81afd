use Rattle.std.proofs.Common.{arith}
use Rattle.reql_json.proofs.Symbols.{bytes_from}
use Rattle.reql_print.proofs.held.bytes_are_bytes.Goals as goal

pub returns : goal.returns
returns c = bytes_from c.args.bytes.now (λ i. let typed = c.type_inv.bytes i in omega arith)
