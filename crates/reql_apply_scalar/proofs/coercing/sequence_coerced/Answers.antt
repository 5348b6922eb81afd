use Rattle.std.proofs.Common.{sym, subst, ◌∙◌}
use Rattle.reql_datum.specs.Answer.{Answer}
use Rattle.reql_datum.specs.Outcome.{Gives}
use Rattle.reql_datum.specs.Plain.{Plain}
use Rattle.reql_datum.specs.View.{plain}
use Rattle.reql_operand.specs.Seen.{meant}
use Rattle.reql_operand.specs.Tables.{seen}
use Rattle.reql_apply_scalar.proofs.Refused.{refused_is}
use Rattle.reql_apply_scalar.proofs.coercing.sequence_coerced.Goals as goal

pub returns : goal.returns
returns g c =
    let w = seen g.V.TableView.documents g.V.TableView.indexes g.V.TableView.entries c.args.world.now in
    subst (λ (x : Answer Plain). Gives plain c.refused.result x) (sym (refused_is w (meant w c.args.value.now) c.args.to.now (sym c.same_text.ensures ∙ c.if-same_text.false))) (c.refused.ensures w)
