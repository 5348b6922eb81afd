use Rattle.std.proofs.Common.{arith}
use Rattle.reql_print.proofs.Spelled.{ids_text}
use Rattle.reql_print.proofs.texts.ids_have_text.Goals as goal

pub returns : goal.returns
returns c = ids_text c.args.ids.now (λ i. let typed = c.type_inv.ids i in omega (arith, typed))
