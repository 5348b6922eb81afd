use Rattle.std.proofs.Common.{sym, subst}
use Rattle.reql_datum.specs.Answer.{Answer}
use Rattle.reql_datum.specs.Outcome.{Gives}
use Rattle.reql_datum.specs.Plain.{Plain}
use Rattle.reql_datum.specs.View.{plain}
use Rattle.reql_operand.specs.Seen.{all_shown}
use Rattle.reql_apply_scalar.proofs.Operated.{operated}
use Rattle.reql_apply_scalar.proofs.adding.arithmetic.Goals as goal

pub returns : goal.returns
returns c = λ w calls opts. subst (λ (x : Answer Plain). Gives plain c.on_operands.result x) (sym (operated c.args.op (all_shown w c.args.args.now))) (c.on_operands.ensures w)
