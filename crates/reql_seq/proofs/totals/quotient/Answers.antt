use Rattle.std.proofs.Common.{rules, pos}
use Rattle.reql_seq.proofs.Summing.{quotient_at}
use Rattle.reql_seq.proofs.totals.quotient.Goals as goal

pub returns-in-Some : goal.returns-in-Some
returns-in-Some c = quotient_at c.args.total (pos c.args.count) c.in-Some.n (search rules) (search rules) (search rules)
