use Rattle.std.proofs.Common.{ℕ, List, [], Ok, Err, codes}
use Rattle.reql_datum.specs.Answer.{Answer}
use Rattle.reql_datum.specs.Plain.{Plain}
use Rattle.reql_datum.specs.View.{plain}
use Rattle.reql_rules.specs.Types.{mismatch}
use Rattle.reql_value_spec.specs.World.{bare_world}
use Rattle.reql_operand.proofs.Steps.{fails_on}
use Rattle.reql_plan_changes.proofs.index.no_text.Goals as goal

pub returns : goal.returns
returns c = fails_on {A = Plain} {B = List ℕ} c.in-Err.fault (Err (mismatch (codes "STRING") (plain c.args.datum.now))) (λ d. Ok []) (rw c.in_ok-copy.ensures at (c.in-Err.ensures.which bare_world))
