use Rattle.std.proofs.Common.{Bor, ℕ, arith}
use Rattle.reql_datum.specs.declared.datum.Datum.{Datum}
use Rattle.reql_squash.proofs.Walks.{last_is}
use Rattle.reql_squash.proofs.joining.last_of.Goals as goal

pub returns : goal.returns
returns c = last_is (λ (p : Bor (ℕ × Datum)). p.now) c.args.items.now c.at.result c.saturating_sub-last.result (omega (arith, c.saturating_sub-last.ensures, c.len.ensures)) c.at.ensures.found
