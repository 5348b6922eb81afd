use Rattle.std.proofs.Common.{sym, subst}
use Rattle.reql_datum.specs.Answer.{Answer}
use Rattle.reql_datum.specs.Outcome.{Gives}
use Rattle.reql_datum.specs.Plain.{Plain}
use Rattle.reql_datum.specs.View.{plain}
use Rattle.reql_operand.specs.Seen.{shown}
use Rattle.reql_apply_scalar.proofs.Walked.{first_is}
use Rattle.reql_apply_scalar.proofs.adding.on_operands.Goals as goal

pub returns-in-len1-up : goal.returns-in-len1-up
returns-in-len1-up c w =
    subst (λ (r : Answer Plain). Gives plain c.run.result r)
    (sym (first_is c.args.op (shown w) c.args.args.now c.first-item.result c.want_of.result c.in-len1-up.len_at_least c.first-item.is (c.want_of.ensures w))) (c.run.ensures w)
