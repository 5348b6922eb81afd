use Rattle.std.proofs.Common.{length, nat_le, ap, sym, ◌∙◌}
use Rattle.reql_print.proofs.Kept.{listed_again}
use Rattle.reql_print.proofs.index.are_few.Goals as goal

pub returns : goal.returns
returns c = ap (λ n. nat_le n 100000) (c.len.ensures ∙ ap length (sym (listed_again c.args.items.now)))
